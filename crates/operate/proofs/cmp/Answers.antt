use Rattle.registers.specs.Parts.{part_of}
use Rattle.operate.specs.Operate.{operated_of}
use Rattle.operate.proofs.cmp.Goals as goal

pub returns : goal.returns
unfolding operated_of part_of
returns c = λ pc. simp (c.with_sum.ensures, c.sub.ensures, c.get.ensures)
