use borrow.Author.Tests.{lt-ltb, le-ltb}
use Rattle.entry.specs.Entry.{index_as}
use Rattle.bitturns.proofs.index_as.Goals as goal

pub returns-then-i-lt16 : goal.returns-then-i-lt16
unfolding index_as
returns-then-i-lt16 c = rw (lt-ltb _ _ c.if-i-lt16.true)

pub returns-else-i-lt16 : goal.returns-else-i-lt16
unfolding index_as
returns-else-i-lt16 c = rw (le-ltb _ _ c.if-i-lt16.false)
