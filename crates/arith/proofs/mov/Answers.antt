use Rattle.arith.specs.Widths.{moved_of}
use Rattle.arith.proofs.mov.Goals as goal

pub returns : goal.returns
unfolding moved_of
returns c = cc
