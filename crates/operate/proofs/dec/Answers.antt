use Rattle.registers.specs.Parts.{part_of, with_part}
use Rattle.operate.proofs.dec.Goals as goal

pub returns : goal.returns
unfolding part_of with_part
returns c = λ pc. simp (c.with_counted.ensures, c.put.ensures, c.dec-x.ensures, c.get.ensures)
