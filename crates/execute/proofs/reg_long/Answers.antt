use Rattle.entry.specs.Entry.{reg_long}
use Rattle.execute.proofs.reg_long.Goals as goal

pub returns : goal.returns
unfolding reg_long
returns c = c.reg_long_op.ensures _ c.get-s.ensures
