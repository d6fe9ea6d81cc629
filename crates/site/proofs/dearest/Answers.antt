use native.Mathlib.Omega.{arith}
use borrow.Author.Tests.{lt-ltb, le-ltb}
use Rattle.site.specs.Costs.{dearest_of}
use Rattle.site.proofs.dearest.Goals as goal

pub returns-then-k : goal.returns-then-k
unfolding dearest_of
returns-then-k c = (rw (lt-ltb _ _ c.if-k.true, c.port_cost.ensures.0), c.port_cost.ensures.1)

pub returns-else-k : goal.returns-else-k
unfolding dearest_of
returns-else-k c = (rw (le-ltb _ _ c.if-k.false), omega arith)
