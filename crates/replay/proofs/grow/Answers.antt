use Rattle.replay.specs.Replay.{grown}
use borrow.Author.Tests.{lt-ltb, le-ltb}
use Rattle.replay.proofs.grow.Goals as goal

pub returns-then-p-lt2 : goal.returns-then-p-lt2
unfolding grown
returns-then-p-lt2 c = rw (lt-ltb _ _ c.if-p-lt2.true) (cc)

pub returns-then-p-lt6 : goal.returns-then-p-lt6
unfolding grown
returns-then-p-lt6 c = rw (le-ltb _ _ c.if-p-lt2.false, lt-ltb _ _ c.if-p-lt6.true) (cc)

pub returns-then-p-lt7 : goal.returns-then-p-lt7
unfolding grown
returns-then-p-lt7 c = rw (le-ltb _ _ c.if-p-lt2.false, le-ltb _ _ c.if-p-lt6.false, lt-ltb _ _ c.if-p-lt7.true) (cc)

pub returns : goal.returns
unfolding grown
returns c = rw (le-ltb _ _ c.if-p-lt2.false, le-ltb _ _ c.if-p-lt6.false, le-ltb _ _ c.if-p-lt7.false) (cc)
