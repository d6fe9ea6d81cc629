use Rattle.arith.specs.declared.Width.TheVariants.{Byte}
use Rattle.entry.specs.Entry.{reg_short}
use Rattle.execute.proofs.Laws.{reg_obeys}
use Rattle.execute.proofs.reg_byte.Goals as goal

pub returns : goal.returns
unfolding reg_short
returns c = λ b rom ram. simp (c.done.ensures, c.next.ensures) (reg_obeys _ _ _ _ _ Byte _ _ (λ pc. rw c.get-s.ensures at (c.reg_byte_op-g.ensures pc)) 2 _ b rom ram)
