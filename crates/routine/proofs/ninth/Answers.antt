use borrow.Author.Tests.{lt-ltb, le-ltb}
use Rattle.routine.specs.MirrorTurn.{ninth_in}
use Rattle.routine.proofs.ninth.Goals as goal

pub returns-then-kept-lt8 : goal.returns-then-kept-lt8
unfolding ninth_in
returns-then-kept-lt8 c = rw (lt-ltb _ _ c.if-kept-lt8.true)

pub returns : goal.returns
unfolding ninth_in
returns c = rw (le-ltb _ _ c.if-kept-lt8.false) c.completes.ensures
