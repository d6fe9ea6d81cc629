use Rattle.arith.specs.Sums.{neg_of}
use Rattle.arith.proofs.sums.neg.Goals as goal

pub returns : goal.returns
unfolding neg_of
returns c = cc
