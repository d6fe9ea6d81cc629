use borrow.Author.Tests.{lt-ltb, le-ltb}
use Rattle.arith.proofs.decimal.daa_half.Goals as goal

pub returns-then-up-lt10 : goal.returns-then-up-lt10
returns-then-up-lt10 c = rw (lt-ltb _ _ c.if-up-lt10.true) c.by_row.ensures

pub returns-else-up-lt10 : goal.returns-else-up-lt10
returns-else-up-lt10 c = rw (le-ltb _ _ c.if-up-lt10.false) c.by_row-else-up-lt10.ensures
