-- The same as the code finds it. Nothing to believe: `proofs/Stepped.antt` shows that it is what `Steps` says.
use Rattle.std.specs.Prelude.{ℕ, List, [], ◌∷◌, Result, Ok, Err}
use Rattle.refusal.specs.declared.Refusal.{Refusal}
use Rattle.step.specs.Step.{step_of}
use Rattle.step.specs.declared.StepAnswer.{StepAnswer}
use Rattle.run.specs.declared.Ending.{Ending}
use Rattle.run.specs.declared.Ending.TheVariants.{AtStop, Spent, Halted}
use Rattle.run.specs.declared.RunAnswer.{RunAnswer}
use Rattle.routine.specs.declared.RoutineAnswer.{RoutineAnswer}
use Rattle.arith.specs.Widths.{num}
use Rattle.memory.specs.Told.{no_access}
use Rattle.memory.specs.declared.told.Access.{Access}
use Rattle.watch.specs.Watch.{list_of}
use Rattle.layout.specs.Lent.{overwrite}
use Rattle.layout.specs.Board.{board_of}
use Rattle.layout.specs.Registers.{registers_of, ten_of}
use Rattle.host.specs.Answers.{Noted, tell}
use Rattle.host.specs.declared.answers.Head.{Head}
use Rattle.host.specs.MirrorAnswers.{done, head_of}
use Rattle.host.specs.Steps.{Left, left, step_answer, run_answer}
use Rattle.host.specs.Routines.{routine_told}

pub record Kept : Type 0 where
  pub returned : ℕ
  pub regs : List ℕ
  pub answer : List ℕ

abbrev pub kept : ℕ → List ℕ → List ℕ → Kept
kept n r a = record { returned = n; regs = r; answer = a }

abbrev pub keeping : List ℕ → Noted → Kept
keeping regs n = kept n.returned regs n.answer

unfoldable pub step_told : Result (Unit {0}) Refusal → StepAnswer → List Access → List ℕ → List ℕ → Kept
step_told (Ok tt) q xs regs answer = keeping (overwrite (ten_of q.regs) regs) (tell (step_answer (Ok tt) q.states xs) answer)
step_told (Err f) q xs regs answer = keeping regs (tell (step_answer (Err f) 0 []) answer)

unfoldable pub step_lent : List ℕ → List ℕ → List ℕ → List ℕ → List ℕ → Left
step_lent board rom ram regs answer =
    let a = step_of (board_of board) rom ram (registers_of regs) in
    let xs = list_of (board_of board) rom ram (registers_of regs) in
    let k = step_told a.answer.outcome a.answer xs regs answer in
    left k.returned a.mem k.regs k.answer

-- no access; and the numbers of an access as the code has it
abbrev pub no_entry : Access
no_entry = no_access

abbrev pub three : Access → List ℕ → List ℕ
three x more = x.place ∷ x.bytes ∷ num x.write ∷ more

-- the head of an ending, and its number
unfoldable pub numbered_end : Ending → Head × ℕ
numbered_end AtStop = (done, 0)
numbered_end Spent = (done, 1)
numbered_end (Halted f) = (head_of f, 2)

unfoldable pub run_told : RunAnswer → List ℕ → List ℕ → Kept
run_told q regs answer = keeping (overwrite (ten_of q.regs) regs) (tell (run_answer q.why q.steps q.states) answer)

unfoldable pub routine_kept : RoutineAnswer → List ℕ → List ℕ → Kept
routine_kept q regs answer = keeping (overwrite (ten_of q.regs) regs) (tell (routine_told q.why q) answer)
