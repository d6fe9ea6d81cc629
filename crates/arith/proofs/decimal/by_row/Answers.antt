use Rattle.arith.specs.MirrorRows.{by_row}
use Rattle.arith.proofs.decimal.by_row.Goals as goal

pub returns-then-upper-up : goal.returns-then-upper-up
unfolding by_row
returns-then-upper-up c = rw c.if-upper-up.true

pub returns-else-upper-up : goal.returns-else-upper-up
unfolding by_row
returns-else-upper-up c = rw c.if-upper-up.false
