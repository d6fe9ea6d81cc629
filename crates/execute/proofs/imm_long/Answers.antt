use Rattle.arith.specs.declared.Width.TheVariants.{Long}
use Rattle.entry.specs.Entry.{imm_long}
use Rattle.execute.proofs.Laws.{imm_obeys}
use Rattle.execute.proofs.imm_long.Goals as goal

pub returns : goal.returns
unfolding imm_long
returns c = λ b rom ram. simp (c.done.ensures, c.next.ensures) (imm_obeys _ _ _ _ _ Long _ _ c.imm_long_op-g.ensures 6 _ b rom ram)
