use mathlib.Core.Path.{◌∙◌}
use Rattle.carried.specs.Carried.{report_numbers}
use Rattle.carried.proofs.put_report.Goals as goal

-- src/lib.rt:139:1
pub returns-in-Agreed : goal.returns-in-Agreed
unfolding report_numbers
returns-in-Agreed c = rw c.in-Agreed.is c.put_told.ensures

-- src/lib.rt:139:1
pub returns-in-Differs : goal.returns-in-Differs
unfolding report_numbers
returns-in-Differs c = rw c.in-Differs.is (c.put_told-in-Differs.ensures ∙ rw c.number.ensures)

-- src/lib.rt:139:1
pub returns-in-Halted : goal.returns-in-Halted
unfolding report_numbers
returns-in-Halted c = rw c.in-Halted.is (c.put_told-in-Halted.ensures ∙ rw (c.group.ensures, c.place.ensures, c.number-in-Halted.ensures))
