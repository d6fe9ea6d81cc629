use Rattle.registers.specs.Parts.{part_of, with_part}
use Rattle.operate.specs.Operate.{shift_of, turned_of}
use Rattle.operate.proofs.rotl.Goals as goal

pub returns : goal.returns
unfolding shift_of turned_of part_of with_part
returns c = λ pc. simp (c.with_shifted.ensures, c.put.ensures, c.rotl-x.ensures, c.get.ensures)
