use Rattle.operate.specs.Operate.{ccr_of, changed}
use Rattle.operate.proofs.orc.Goals as goal

pub returns : goal.returns
unfolding ccr_of changed
returns c = λ er pc. simp (c.condition.ensures, c.or.ensures, c.from-2.ensures, c.from.ensures)
