use Rattle.wording.specs.Ports.{area_fault}
use borrow.Author.Tests.{eq-eqb, lt-ltb, ne_eqb}
use Rattle.wording.proofs.ports.area_fault.Goals as goal

pub returns-then-a-eq1 : goal.returns-then-a-eq1
unfolding area_fault
returns-then-a-eq1 c = rw (eq-eqb _ _ c.if-a-eq1.true) c.text.ensures

pub returns-then-a-eq1-2 : goal.returns-then-a-eq1-2
unfolding area_fault
returns-then-a-eq1-2 c = rw (ne_eqb _ _ c.if-a-eq1.false, eq-eqb _ _ c.if-a-eq1-2.true) c.text-then-a-eq1-2.ensures

pub returns-then-a : goal.returns-then-a
unfolding area_fault
returns-then-a c = rw (ne_eqb _ _ c.if-a-eq1.false, ne_eqb _ _ c.if-a-eq1-2.false, lt-ltb _ _ c.if-a.true) c.text-then-a.ensures
