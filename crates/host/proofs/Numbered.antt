-- The numbers of an ending, a report or a way, behind their head.
use Rattle.std.specs.Prelude.{Ok, Option, Some, None}
use Prim.Native.Nat.{ℕ}
use mathlib.Core.Path.{◌≡◌, refl}
use mathlib.Core.List.{List, [], ◌∷◌}
use Rattle.run.specs.declared.Ending as run
use Rattle.run.specs.declared.Ending.TheVariants as ran
use Rattle.routine.specs.declared.Ending as routine
use Rattle.routine.specs.declared.Ending.TheVariants as kept
use Rattle.routine.specs.declared.RoutineAnswer.{RoutineAnswer}
use Rattle.replay.specs.declared.Report.{Report}
use Rattle.replay.specs.declared.Report.TheVariants as told
use Rattle.host.specs.Answers.{completed, tell}
use Rattle.host.specs.MirrorAnswers.{headed, place_on}
use Rattle.host.specs.MirrorSteps.{numbered_end}
use Rattle.host.specs.MirrorRoutines.{numbered_ending}
use Rattle.host.specs.MirrorReplays.{numbered_report}
use Rattle.host.specs.Figures.{way_told}
use Rattle.host.specs.Steps.{run_answer}
use Rattle.host.specs.Replays.{replay_answer}
use Rattle.host.specs.Routines.{kept_numbers, routine_told}

pub run_numbers : (why : run.Ending) (steps states : ℕ)
    → headed (λ (x : ℕ). x) (numbered_end why).0 (steps ∷ states ∷ (numbered_end why).1 ∷ []) ≡ run_answer why steps states
unfolding numbered_end run_answer
run_numbers ran.AtStop steps states = refl
run_numbers ran.Spent steps states = refl
run_numbers (ran.Halted f) steps states = refl

pub routine_numbers : (why : routine.Ending) (q : RoutineAnswer)
    → headed (λ (x : ℕ). x) (numbered_ending why).0 (kept_numbers q (numbered_ending why).1) ≡ routine_told why q
unfolding numbered_ending routine_told
routine_numbers kept.AtStop q = refl
routine_numbers kept.Spent q = refl
routine_numbers (kept.Halted f) q = refl
routine_numbers kept.Returned q = refl
routine_numbers kept.Ninth q = refl
routine_numbers kept.Elsewhere q = refl

pub report_numbers : (t : Report) (steps states : ℕ)
    → headed (λ (x : ℕ). x) (numbered_report t).0 (steps ∷ states ∷ (numbered_report t).1 ∷ (numbered_report t).2 ∷ []) ≡ replay_answer t steps states
unfolding numbered_report replay_answer
report_numbers told.Agreed steps states = refl
report_numbers (told.Differs f) steps states = refl
report_numbers (told.Halted f) steps states = refl

pub way_numbers : (on : Option ℕ) (answer : List ℕ) → tell (completed (place_on on ∷ [])) answer ≡ way_told (Ok on) answer
unfolding place_on way_told
way_numbers (Some p) answer = refl
way_numbers None answer = refl
