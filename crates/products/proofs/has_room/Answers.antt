use native.Mathlib.Omega.{arith}
use mir.Syntax.{w64}
use mir.ValLaws.{to_z_pos, to_z-of_z}
use Prim.Native.Nat.{◌/◌}
use Rattle.arith.specs.Widths.{fits_in}
use Rattle.products.proofs.Machine.{differs, subtracted}
use Rattle.products.proofs.has_room.Goals as goal

pub overflow_sub-result : goal.overflow_sub-result
overflow_sub-result c = differs w64 0 (c.power.result / 2) (omega arith) (omega arith)

pub returns : goal.returns
unfolding fits_in
returns c =
    let p = c.power.ensures in
    rw (subtracted w64 0 (c.power.result / 2) (omega arith) (omega arith), to_z-of_z w64 c.args.z c.ranges.z, to_z_pos w64 (c.power.result / 2) (omega arith), p.half)
