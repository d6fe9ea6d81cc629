use mathlib.Core.Path.{◌∙◌}
use Rattle.carried.specs.Carried.{stage_numbers}
use Rattle.carried.proofs.put_stage.Goals as goal

-- src/lib.rt:161:1
pub returns-in-Version : goal.returns-in-Version
unfolding stage_numbers
returns-in-Version c = rw c.in-Version.is (c.put_told.ensures ∙ rw (c.put_read.ensures, c.none.ensures))

-- src/lib.rt:161:1
pub returns-in-Records : goal.returns-in-Records
unfolding stage_numbers
returns-in-Records c = rw c.in-Records.is (c.put_told-in-Records.ensures ∙ rw c.put_read-in-Records.ensures)

-- src/lib.rt:161:1
pub returns-in-Told : goal.returns-in-Told
unfolding stage_numbers
returns-in-Told c = rw c.in-Told.is (c.put_report.ensures ∙ rw (c.put_read-in-Told.ensures, c.none-in-Told.ensures))

-- src/lib.rt:161:1
pub returns-in-Closed : goal.returns-in-Closed
unfolding stage_numbers
returns-in-Closed c = rw c.in-Closed.is (c.put_told-in-Closed.ensures ∙ rw (c.put_read-in-Closed.ensures, c.none-in-Closed.ensures))
