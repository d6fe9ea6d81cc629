use Rattle.arith.specs.Sums.{inc_of}
use Rattle.arith.proofs.sums.inc.Goals as goal

pub returns : goal.returns
unfolding inc_of
returns c = cc
