-- host/h8.h, h8_routine: what it returns and leaves in the lent arrays.
use Rattle.std.specs.Prelude.{ℕ, cond, List, [], ◌∷◌, ltb, length, get_or}
use Rattle.refusal.specs.declared.Refusal.{Refusal}
use Rattle.refusal.specs.declared.Refusal.TheVariants.{BadBoard, BudgetTooLarge, LentTooShort}
use Rattle.routine.specs.Routine.{Routined, routine_of}
use Rattle.routine.specs.declared.Ending.{Ending}
use Rattle.routine.specs.declared.Ending.TheVariants.{AtStop, Spent, Halted, Returned, Ninth, Elsewhere}
use Rattle.routine.specs.declared.RoutineAnswer.{RoutineAnswer}
use Rattle.layout.specs.Lent.{overwrite, eight_of}
use Rattle.layout.specs.Board.{board_of}
use Rattle.layout.specs.Registers.{registers_length, registers_of, ten_of}
use Rattle.host.specs.Answers.{Noted, completed, refused_with, tell}
use Rattle.host.specs.Steps.{Left, left, leaving}

-- the steps, their states, the ending, how many addresses are kept, and these, in the order pushed
abbrev pub kept_numbers : RoutineAnswer → ℕ → List ℕ
kept_numbers q ending = q.steps ∷ q.states ∷ ending ∷ q.kept.count ∷ eight_of q.kept.addresses

-- [number, place, group, steps, states, ending, count, eight addresses]; enum h8_ending
unfoldable pub routine_told : Ending → RoutineAnswer → List ℕ
routine_told AtStop q = completed (kept_numbers q 0)
routine_told Spent q = completed (kept_numbers q 1)
routine_told (Halted f) q = refused_with f (kept_numbers q 2)
routine_told Returned q = completed (kept_numbers q 3)
routine_told Ninth q = completed (kept_numbers q 4)
routine_told Elsewhere q = completed (kept_numbers q 5)

-- working memory and registers are as the completed steps leave them, whatever the ending
unfoldable pub routine_left : Routined → List ℕ → List ℕ → Left
routine_left a regs answer =
    leaving a.mem (overwrite (ten_of a.answer.regs) regs) (tell (routine_told a.answer.why a.answer) answer)

-- before a step: nothing is done, and nothing is kept
unfoldable pub unrun : Refusal → List ℕ → Noted
unrun f answer = tell (refused_with f (0 ∷ 0 ∷ 2 ∷ 0 ∷ 0 ∷ 0 ∷ 0 ∷ 0 ∷ 0 ∷ 0 ∷ 0 ∷ 0 ∷ [])) answer

-- 13 for the answer; 13 for the registers; 12; 1 for a condition number over 255; then the run
unfoldable pub routine_call : List ℕ → List ℕ → List ℕ → List ℕ → ℕ → ℕ → List ℕ → Left
routine_call board rom ram regs stop budget answer =
    cond (ltb (length answer) 15) (left 13 ram regs answer)
    (cond (ltb (length regs) registers_length) (leaving ram regs (unrun (LentTooShort registers_length) answer))
    (cond (ltb 1000000 budget) (leaving ram regs (unrun BudgetTooLarge answer))
    (cond (ltb 255 (get_or regs 9 0)) (leaving ram regs (unrun BadBoard answer))
    (routine_left (routine_of (board_of board) rom ram (registers_of regs) stop budget) regs answer))))
