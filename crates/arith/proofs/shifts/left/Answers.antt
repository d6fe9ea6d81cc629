use Rattle.arith.specs.Shifts.{left_of}
use Rattle.arith.proofs.shifts.left.Goals as goal

pub returns : goal.returns
unfolding left_of
returns c = cc
