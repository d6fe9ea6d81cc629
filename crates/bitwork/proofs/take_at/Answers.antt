use mathlib.Core.Path.{sym, ◌∙◌}
use Rattle.memory.specs.Trail.{call_noted}
use Rattle.moves.specs.Moves.{address_of, step_over}
use Rattle.moves.proofs.Laws.{no_deed}
use Rattle.bitwork.specs.Bitwork.{took_from, takes_at}
use Rattle.bitwork.proofs.take_at.Goals as goal

pub returns-in-Ok : goal.returns-in-Ok
unfolding call_noted address_of step_over took_from takes_at
returns-in-Ok c = record { did = λ pc. simp (sym c.read.ensures.value ∙ c.in-Ok.is, c.did.ensures, c.took.ensures pc); told = λ pc o. rw c.in-Ok.is at c.read.ensures.told }

pub returns-in-Err : goal.returns-in-Err
unfolding call_noted address_of step_over took_from takes_at
returns-in-Err c = record { did = λ pc. simp (sym c.read.ensures.value ∙ c.in-Err.is, c.refused.ensures); told = λ pc o. absurd (no_deed _ _ _ c.refused.ensures o) }
