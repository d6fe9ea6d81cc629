use Rattle.registers.specs.Parts.{part_of, with_part}
use Rattle.operate.specs.Operate.{carried_of}
use Rattle.operate.proofs.Laws.{raised}
use Rattle.operate.proofs.raise.Goals as goal

pub returns : goal.returns
unfolding carried_of part_of with_part
returns c = λ pc. simp (c.put.ensures, raised _ _ _ c.wrapping_add_u32.ensures.value, c.get-x.ensures)
