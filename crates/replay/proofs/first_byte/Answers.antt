use Rattle.replay.specs.Replay.{first_of}
use borrow.Author.Tests.{eq-eqb, ne_eqb}
use Rattle.replay.proofs.first_byte.Goals as goal

pub returns-then-x-eq1 : goal.returns-then-x-eq1
unfolding first_of
returns-then-x-eq1 c = rw (eq-eqb _ _ c.if-x-eq1.true) (cc)

pub returns : goal.returns
unfolding first_of
returns c = rw (ne_eqb _ _ c.if-x-eq1.false) (cc)
