use Rattle.left.specs.MirrorTable.{patterns_in, rows_in}
use Rattle.left.proofs.group.Goals as goal

pub returns : goal.returns
unfolding patterns_in rows_in
returns c = c.find.ensures
