use mathlib.Core.Path.{sym, ◌∙◌, ap}
use Rattle.memory.specs.Trail.{call_noted}
use Rattle.operate.specs.declared.Deed.{Deed}
use Rattle.moves.proofs.Laws.{no_deed}
use Rattle.bitwork.proofs.Laws.{given_stored, noted_given}
use Rattle.bitwork.specs.Bitwork.{gave_to, gives_at}
use Rattle.bitwork.proofs.give_at.Goals as goal

pub returns-in-Ok : goal.returns-in-Ok
unfolding call_noted gave_to gives_at
returns-in-Ok c = let b = c in record { did = λ pc. rw (sym b.read.ensures.value ∙ c.in-Ok.is, c.kept.ensures) (given_stored _ _ _ _ _ pc _ _ _ _ _ _ (c.gave-y.ensures pc) c.write.ensures.value); told = λ pc o. noted_given _ _ _ pc _ _ _ _ (rw c.in-Ok.is at b.read.ensures.told) c.write.ensures.told (sym (ap (λ (e : Deed). e.outcome) c.kept.ensures) ∙ o) }

pub returns-in-Err : goal.returns-in-Err
unfolding call_noted gave_to gives_at
returns-in-Err c = record { did = λ pc. simp (sym c.read.ensures.value ∙ c.in-Err.is, c.refused.ensures); told = λ pc o. absurd (no_deed _ _ _ c.refused.ensures o) }
