use Rattle.registers.specs.Parts.{part_of, with_part}
use Rattle.operate.specs.Operate.{operated_of}
use Rattle.operate.proofs.add.Goals as goal

pub returns : goal.returns
unfolding operated_of part_of with_part
returns c = λ pc. simp (c.with_sum.ensures, c.put.ensures, c.add-x.ensures, c.get.ensures)
