use mathlib.Core.Path.{sym, ◌∙◌}
use Rattle.operate.specs.Operate.{operated_of}
use Rattle.memory.specs.Trail.{call_noted}
use Rattle.moves.proofs.Laws.{no_deed}
use Rattle.moves.specs.Moves.{address_of, step_over, loaded_of, load_of}
use Rattle.moves.proofs.load.Goals as goal

pub returns-in-Ok : goal.returns-in-Ok
unfolding call_noted operated_of address_of step_over loaded_of load_of
returns-in-Ok c = record { did = λ pc. simp (sym c.read.ensures.value ∙ c.in-Ok.is, c.did.ensures, c.mov.ensures pc); told = λ pc o. rw c.in-Ok.is at c.read.ensures.told }

pub returns-in-Err : goal.returns-in-Err
unfolding call_noted operated_of address_of step_over loaded_of load_of
returns-in-Err c = record { did = λ pc. simp (sym c.read.ensures.value ∙ c.in-Err.is, c.refused.ensures); told = λ pc o. absurd (no_deed _ _ _ c.refused.ensures o) }
