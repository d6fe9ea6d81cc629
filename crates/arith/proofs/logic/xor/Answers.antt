use Rattle.arith.specs.Widths.{bits_of, moved_of}
use Rattle.arith.proofs.Bitwise.{xor_bits}
use Rattle.arith.proofs.logic.xor.Goals as goal

pub returns : goal.returns
unfolding moved_of
returns c = let s = c.args in cc (xor_bits (bits_of s.w) s.a s.b)
