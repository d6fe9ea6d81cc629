use Rattle.layout.specs.Registers.{ten_of}
use mathlib.Core.Path.{◌∙◌}
use Rattle.carried.specs.Carried.{numbers_of}
use Rattle.carried.proofs.put_replay.Goals as goal

-- src/lib.rt:184:1
pub returns : goal.returns
unfolding numbers_of ten_of
returns c = c.put_stage.ensures ∙ rw (c.put-3.ensures, c.put-2.ensures, c.put.ensures, c.put_registers.ensures)
