use Rattle.arith.specs.Widths.{bits_of}
use Rattle.arith.proofs.Signed.{over_sum, twice}
use Rattle.arith.specs.Sums.{add_of}
use Rattle.arith.proofs.sums.add.Goals as goal

pub returns : goal.returns
unfolding add_of
returns c = let s = c.args in cc (over_sum (bits_of s.w) (twice s.w) s.a s.b s.carry)
