use Rattle.arith.specs.declared.Width.TheVariants.{Word}
use Rattle.entry.specs.Entry.{imm_word}
use Rattle.execute.proofs.Laws.{imm_obeys}
use Rattle.execute.proofs.imm_word.Goals as goal

pub returns : goal.returns
unfolding imm_word
returns c = λ b rom ram. simp (c.done.ensures, c.next.ensures) (imm_obeys _ _ _ _ _ Word _ _ c.imm_word_op-g.ensures 4 _ b rom ram)
