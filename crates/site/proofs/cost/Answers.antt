use native.Mathlib.Omega.{arith}
use Rattle.site.specs.Costs.{cost_of}
use Rattle.site.proofs.cost.Goals as goal

pub returns-then-k-p : goal.returns-then-k-p
unfolding cost_of
returns-then-k-p c = (rw (c.if-k-p.true, c.port_cost.ensures.0), c.port_cost.ensures.1)

pub returns-else-k-p : goal.returns-else-k-p
unfolding cost_of
returns-else-k-p c = (rw c.if-k-p.false, omega arith)
