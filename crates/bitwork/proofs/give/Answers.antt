use Rattle.registers.specs.Parts.{part_of, with_part}
use Rattle.bitwork.proofs.give.Goals as goal

pub returns : goal.returns
unfolding part_of with_part
returns c = λ pc. simp (c.put.ensures, c.gave.ensures pc, c.get-x.ensures)
