use borrow.Author.Tests.{lt-ltb, le-ltb}
use Rattle.run.proofs.fewer.Goals as goal

pub returns-then-n-m : goal.returns-then-n-m
returns-then-n-m c = rw (lt-ltb _ _ c.if-n-m.true)

pub returns : goal.returns
returns c = rw (le-ltb _ _ c.if-n-m.false)
