use borrow.Author.Tests.{lt-ltb, le-ltb}
use Rattle.arith.proofs.decimal.daa_carried.Goals as goal

pub returns-then-low-lt10 : goal.returns-then-low-lt10
returns-then-low-lt10 c = rw (lt-ltb _ _ c.if-low-lt10.true) c.by_row.ensures

pub returns-else-low-lt10 : goal.returns-else-low-lt10
returns-else-low-lt10 c = rw (le-ltb _ _ c.if-low-lt10.false) c.by_row-else-low-lt10.ensures
