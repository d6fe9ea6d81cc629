use Rattle.registers.specs.Parts.{part_of, with_part}
use Rattle.operate.specs.Operate.{carried_of}
use Rattle.operate.proofs.Laws.{lowered}
use Rattle.std.proofs.Common.{arith}
use Rattle.operate.proofs.lower.Goals as goal

pub returns : goal.returns
unfolding carried_of part_of with_part
returns c = λ pc. simp (c.put.ensures, lowered _ _ _ (omega arith) c.wrapping_sub_u32.ensures.value, c.get-x.ensures)
