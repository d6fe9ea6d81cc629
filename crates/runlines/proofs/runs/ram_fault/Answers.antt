use borrow.Author.Tests.{ne_eqb, lt-ltb}
use Rattle.runlines.specs.Runs.{ram_fault}
use Rattle.runlines.proofs.runs.ram_fault.Goals as goal

pub returns-then-from-gt16777216 : goal.returns-then-from-gt16777216
unfolding ram_fault
returns-then-from-gt16777216 c =
    rw (ne_eqb _ _ c.if-g-eq1.false, ne_eqb _ _ c.if-g-eq1-2.false, ← c.from.ensures, ← c.from-else-g-eq1-2.ensures, lt-ltb _ _ c.if-from-gt16777216.true)
    c.text-then-from-gt16777216.ensures
