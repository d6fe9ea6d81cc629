use Rattle.registers.specs.Parts.{part_of, with_part}
use Rattle.operate.specs.Operate.{operated_of}
use Rattle.operate.proofs.and.Goals as goal

pub returns : goal.returns
unfolding operated_of part_of with_part
returns c = λ pc. simp (c.with_moved.ensures, c.put.ensures, c.and-x.ensures, c.get.ensures)
