use Rattle.registers.specs.Parts.{part_of}
use Rattle.operate.specs.Operate.{ldc_of}
use Rattle.operate.proofs.ldc_reg.Goals as goal

pub returns : goal.returns
unfolding ldc_of part_of
returns c = λ f pc. simp (c.condition.ensures, c.get.ensures)
