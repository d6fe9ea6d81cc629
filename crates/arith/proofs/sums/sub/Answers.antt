use Rattle.arith.specs.Widths.{bits_of}
use Rattle.arith.proofs.Signed.{over_difference, twice}
use Rattle.arith.specs.Sums.{sub_of}
use Rattle.arith.proofs.sums.sub.Goals as goal

pub returns : goal.returns
unfolding sub_of
returns c = let s = c.args in cc (over_difference (bits_of s.w) (twice s.w) s.a s.b s.borrow)
