use Rattle.registers.specs.Parts.{part_of, with_part}
use Rattle.operate.specs.Operate.{unary_of}
use Rattle.operate.proofs.exts.Goals as goal

pub returns : goal.returns
unfolding unary_of part_of with_part
returns c = λ pc. simp (c.with_moved.ensures, c.put.ensures, c.exts-x.ensures, c.get.ensures)
