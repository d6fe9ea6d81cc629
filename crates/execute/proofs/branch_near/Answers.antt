use mathlib.Core.Path.{refl}
use Rattle.entry.specs.Entry.{branch_near}
use Rattle.step.specs.Follow.{follow_of}
use Rattle.step.specs.Step.{effect_of}
use Rattle.turns.proofs.Laws.{done_acts}
use Rattle.execute.proofs.branch_near.Goals as goal

pub returns : goal.returns
unfolding branch_near follow_of effect_of
returns c = λ er b rom ram. simp (c.branch-holds.ensures, c.next.ensures, c.holds.ensures) (done_acts _ _ _ er _ _ b rom ram refl (λ r. r) er _ refl refl (λ pc. refl))
