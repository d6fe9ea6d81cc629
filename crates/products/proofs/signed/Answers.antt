use native.Mathlib.Omega.{arith}
use mir.Syntax.{w64}
use mir.ValLaws.{to_z_pos}
use Rattle.arith.specs.Widths.{bits_of}
use Rattle.arith.proofs.Signed.{twice}
use Rattle.products.proofs.Machine.{differs, subtracted}
use Rattle.products.proofs.Signs.{low, high}
use Rattle.products.proofs.signed.Goals as goal

pub overflow_sub-result : goal.overflow_sub-result
overflow_sub-result c = differs w64 c.low_bits-x.result c.power-m.result (omega arith) (omega arith)

pub returns-then-m-x : goal.returns-then-m-x
returns-then-m-x c =
    let s = c.args in
    let x = c.low_bits-x in
    let m = c.power-m in
    rw (subtracted w64 x.result m.result (omega arith) (omega arith), x.ensures, m.ensures.is, high (bits_of s.w) (twice s.w) s.a (omega (arith, x.ensures, m.ensures)))

pub returns-else-m-x : goal.returns-else-m-x
returns-else-m-x c =
    let s = c.args in
    let x = c.low_bits-x in
    rw (to_z_pos w64 x.result (omega arith), x.ensures, low (bits_of s.w) (twice s.w) s.a (omega (arith, x.ensures, c.power-m.ensures)))
