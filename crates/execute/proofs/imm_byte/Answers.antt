use Rattle.arith.specs.declared.Width.TheVariants.{Byte}
use Rattle.entry.specs.Entry.{imm_byte}
use Rattle.execute.proofs.Laws.{imm_obeys}
use Rattle.execute.proofs.imm_byte.Goals as goal

pub returns : goal.returns
unfolding imm_byte
returns c = λ b rom ram. simp (c.done.ensures, c.next.ensures) (imm_obeys _ _ _ _ _ Byte _ _ c.imm_byte_op-g.ensures 2 _ b rom ram)
