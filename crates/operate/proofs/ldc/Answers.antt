use Rattle.operate.specs.Operate.{ccr_of, changed}
use Rattle.operate.proofs.ldc.Goals as goal

pub returns : goal.returns
unfolding ccr_of changed
returns c = λ f er pc. simp (c.condition.ensures, c.mov.ensures)
