use Rattle.arith.specs.Widths.{bits_of, moved_of}
use Rattle.arith.proofs.Bitwise.{or_bits}
use Rattle.arith.proofs.logic.or.Goals as goal

pub returns : goal.returns
unfolding moved_of
returns c = let s = c.args in cc (or_bits (bits_of s.w) s.a s.b)
