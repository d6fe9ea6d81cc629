use borrow.Author.Tests.{lt-ltb, le-ltb}
use Rattle.replay.proofs.missing.Goals as goal

pub returns-then-m-n : goal.returns-then-m-n
returns-then-m-n c = rw (← c.ahead-m.ensures, lt-ltb _ _ c.if-m-n.true)

pub returns : goal.returns
returns c = rw (← c.ahead-m.ensures, le-ltb _ _ c.if-m-n.false)
