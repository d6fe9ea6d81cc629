use Rattle.arith.specs.Sums.{add_of}
use Rattle.arith.proofs.shifts.shal.Goals as goal

pub returns : goal.returns
unfolding add_of
returns c = cc
