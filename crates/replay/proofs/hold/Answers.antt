use Rattle.replay.specs.Replay.{held}
use borrow.Author.Tests.{eq-eqb, ne_eqb}
use Rattle.replay.proofs.hold.Goals as goal

pub returns-then-p-eq9 : goal.returns-then-p-eq9
unfolding held
returns-then-p-eq9 c = rw (eq-eqb _ _ c.if-p-eq2.true, eq-eqb _ _ c.if-p-eq9.true) (cc)

pub returns-then-p-eq2 : goal.returns-then-p-eq2
unfolding held
returns-then-p-eq2 c = rw (eq-eqb _ _ c.if-p-eq2.true, ne_eqb _ _ c.if-p-eq9.false) (cc)

pub returns-then-p-eq11 : goal.returns-then-p-eq11
unfolding held
returns-then-p-eq11 c = rw (ne_eqb _ _ c.if-p-eq2.false, eq-eqb _ _ c.if-p-eq11.true) c.compare.ensures

pub returns : goal.returns
unfolding held
returns c = rw (ne_eqb _ _ c.if-p-eq2.false, ne_eqb _ _ c.if-p-eq11.false) (cc)
