use Rattle.arith.specs.declared.Width.TheVariants.{Word}
use Rattle.entry.specs.Entry.{reg_short}
use Rattle.execute.proofs.Laws.{reg_obeys}
use Rattle.execute.proofs.reg_word.Goals as goal

pub returns : goal.returns
unfolding reg_short
returns c = λ b rom ram. simp (c.done.ensures, c.next.ensures) (reg_obeys _ _ _ _ _ Word _ _ (λ pc. rw c.get-s.ensures at (c.reg_word_op-g.ensures pc)) 2 _ b rom ram)
