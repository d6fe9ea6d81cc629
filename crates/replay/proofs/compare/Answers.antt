use Rattle.replay.specs.Replay.{compared}
use borrow.Author.Tests.{eq-eqb, ne_eqb}
use Rattle.replay.proofs.compare.Goals as goal

pub returns-then-p-r : goal.returns-then-p-r
unfolding compared
returns-then-p-r c = rw (ne_eqb _ _ c.if-p-r.true) (cc)

pub returns-then-p-byte : goal.returns-then-p-byte
unfolding compared
returns-then-p-byte c = rw (eq-eqb _ _ c.if-p-r.false, ← c.from-byte.ensures, ne_eqb _ _ c.if-p-byte.true) (cc)

pub returns-then-states-k : goal.returns-then-states-k
unfolding compared
returns-then-states-k c = rw (eq-eqb _ _ c.if-p-r.false, ← c.from-byte.ensures, eq-eqb _ _ c.if-p-byte.false, ne_eqb _ _ c.if-states-k.true) (cc)

pub returns : goal.returns
unfolding compared
returns c = rw (eq-eqb _ _ c.if-p-r.false, ← c.from-byte.ensures, eq-eqb _ _ c.if-p-byte.false, eq-eqb _ _ c.if-states-k.false) c.step_on.ensures
