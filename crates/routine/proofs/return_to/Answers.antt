use borrow.Author.Tests.{eq-eqb, ne_eqb}
use Rattle.routine.specs.MirrorTurn.{returned_to}
use Rattle.routine.proofs.return_to.Goals as goal

pub returns-then-kept-eq0 : goal.returns-then-kept-eq0
unfolding returned_to
returns-then-kept-eq0 c = rw (eq-eqb _ _ c.if-kept-eq0.true) c.make.ensures

pub returns-then-a-last : goal.returns-then-a-last
unfolding returned_to
returns-then-a-last c = rw (ne_eqb _ _ c.if-kept-eq0.false, ← c.last.ensures, ne_eqb _ _ c.if-a-last.true) c.stay.ensures

pub returns : goal.returns
unfolding returned_to
returns c = rw (ne_eqb _ _ c.if-kept-eq0.false, ← c.last.ensures, eq-eqb _ _ c.if-a-last.false, ← c.take_off.ensures) c.make-2.ensures
