use native.Mathlib.Omega.{arith}
use borrow.Author.Tests.{eq-eqb, ne_eqb}
use Rattle.site.specs.Costs.{port_cost}
use Rattle.site.proofs.port_cost.Goals as goal

pub returns-then-n-eq1 : goal.returns-then-n-eq1
unfolding port_cost
returns-then-n-eq1 c = (rw (eq-eqb _ _ c.if-n-eq1.true), omega arith)

pub returns-then-k-eq8 : goal.returns-then-k-eq8
unfolding port_cost
returns-then-k-eq8 c = (rw (ne_eqb _ _ c.if-n-eq1.false, eq-eqb _ _ c.if-k-eq8.true), omega arith)

pub returns-else-k-eq8 : goal.returns-else-k-eq8
unfolding port_cost
returns-else-k-eq8 c = (rw (ne_eqb _ _ c.if-n-eq1.false, ne_eqb _ _ c.if-k-eq8.false), omega arith)
