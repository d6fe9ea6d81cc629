-- host/h8.h, h8_step and h8_run: what they return and leave in the lent arrays.
use Rattle.std.specs.Prelude.{ℕ, zero, suc, ◌+◌, ◌≡◌, cond, List, [], ◌∷◌, ltb, eqb, length, get_or, drop, Result, Ok, Err}
use Rattle.arith.specs.Widths.{num}
use Rattle.refusal.specs.declared.Refusal.{Refusal}
use Rattle.refusal.specs.declared.Refusal.TheVariants.{BadBoard, BudgetTooLarge, LentTooShort}
use Rattle.codes.specs.declared.Instruction.{Instruction}
use Rattle.decoder.specs.MirrorDecode.{decode_of}
use Rattle.step.specs.Step.{After, step_of}
use Rattle.memory.specs.declared.told.Access.{Access}
use Rattle.timing.specs.Made.{sum_of, base_of}
use Rattle.watch.specs.Watch.{list_of, Spares}
use Rattle.run.specs.Run.{Ran, run_of}
use Rattle.run.specs.declared.Ending.{Ending}
use Rattle.run.specs.declared.Ending.TheVariants.{AtStop, Spent, Halted}
use Rattle.layout.specs.Lent.{overwrite}
use Rattle.layout.specs.Board.{board_of}
use Rattle.layout.specs.Registers.{registers_length, registers_of, ten_of}
use Rattle.host.specs.Answers.{Noted, completed, refused_with, tell}

-- what is returned, and working memory, the registers' numbers and the answer afterwards
pub record Left : Type 0 where
  pub returned : ℕ
  pub ram : List ℕ
  pub regs : List ℕ
  pub answer : List ℕ

abbrev pub left : ℕ → List ℕ → List ℕ → List ℕ → Left
left n m r a = record { returned = n; ram = m; regs = r; answer = a }

abbrev pub leaving : List ℕ → List ℕ → Noted → Left
leaving ram regs n = left n.returned ram regs n.answer

-- ---- h8_step

-- H8_STEP_ANSWER
abbrev pub step_length : ℕ
step_length = 17

-- three numbers an access: address, bytes (1 or 2), 0 for a read and 1 for a write; 0 for those that are not there
abbrev pub entries : ℕ → List Access → List ℕ
entries zero xs = []
entries (suc n) [] = 0 ∷ 0 ∷ 0 ∷ entries n []
entries (suc n) (x ∷ xs) = x.place ∷ x.bytes ∷ num x.write ∷ entries n xs

-- how many, and four of them
abbrev pub touched : List Access → List ℕ
touched xs = length xs ∷ entries 4 xs

-- [number, place, group, states, count, four accesses]
unfoldable pub step_answer : Result (Unit {0}) Refusal → ℕ → List Access → List ℕ
step_answer (Ok tt) states xs = completed (states ∷ touched xs)
step_answer (Err f) states xs = refused_with f (0 ∷ touched [])

-- a step that is done leaves working memory and registers as it says; a refused one leaves both as they were
unfoldable pub step_left : Result (Unit {0}) Refusal → After → List Access → List ℕ → List ℕ → List ℕ → Left
step_left (Ok tt) a xs ram regs answer =
    leaving a.mem (overwrite (ten_of a.answer.regs) regs) (tell (step_answer (Ok tt) a.answer.states xs) answer)
step_left (Err f) a xs ram regs answer = leaving ram regs (tell (step_answer (Err f) 0 []) answer)

-- 13 for the answer; 13 for the registers; 1 for a condition number over 255; then the step
unfoldable pub step_call : List ℕ → List ℕ → List ℕ → List ℕ → List ℕ → Left
step_call board rom ram regs answer =
    let a = step_of (board_of board) rom ram (registers_of regs) in
    let xs = list_of (board_of board) rom ram (registers_of regs) in
    let refused : Refusal → Left = λ f. leaving ram regs (tell (step_answer (Err f) 0 []) answer) in
    cond (ltb (length answer) step_length) (left 13 ram regs answer)
    (cond (ltb (length regs) registers_length) (refused (LentTooShort registers_length))
    (cond (ltb 255 (get_or regs 9 0)) (refused BadBoard)
    (step_left a.answer.outcome a xs ram regs answer)))

-- the accesses that an answer tells: as many as its fifth number says, three numbers each
abbrev pub access_in : List ℕ → ℕ → Access
access_in answer i = record { write = eqb (get_or answer (i + 2) 0) 1; bytes = get_or answer (i + 1) 0; place = get_or answer i 0 }

abbrev pub accesses_in : ℕ → List ℕ → ℕ → List Access
accesses_in zero answer i = []
accesses_in (suc n) answer i = access_in answer i ∷ accesses_in n answer (i + 3)

abbrev pub touched_in : List ℕ → List Access
touched_in answer = accesses_in (get_or answer 4 0) answer 5

-- where 0 is returned, the states in answer[3] are the fetch and internal states of the instruction and the sum over the accesses that are told
abbrev pub StepSummed : List ℕ → List ℕ → List ℕ → ℕ → List ℕ → Type 0
StepSummed board rom regs returned answer =
    (i : Instruction) (n : ℕ) → returned ≡ 0 → decode_of (registers_of regs).pc (drop (registers_of regs).pc rom) ≡ Ok (i, n)
    → get_or answer 3 0 ≡ base_of i + sum_of (board_of board).site (touched_in answer)

-- whatever is returned, a byte of working memory that no write of those accesses reaches has not changed
abbrev pub StepSpares : List ℕ → List ℕ → List ℕ → List ℕ → Type 0
StepSpares board ram ram' answer = Spares (board_of board) ram ram' (touched_in answer)

-- ---- h8_run

-- [number, place, group, steps, states, ending]; enum h8_ending
unfoldable pub run_answer : Ending → ℕ → ℕ → List ℕ
run_answer AtStop steps states = completed (steps ∷ states ∷ 0 ∷ [])
run_answer Spent steps states = completed (steps ∷ states ∷ 1 ∷ [])
run_answer (Halted f) steps states = refused_with f (steps ∷ states ∷ 2 ∷ [])

-- working memory and registers are as the completed steps leave them, whatever the ending
unfoldable pub run_left : Ran → List ℕ → List ℕ → Left
run_left a regs answer =
    leaving a.mem (overwrite (ten_of a.answer.regs) regs)
    (tell (run_answer a.answer.why a.answer.steps a.answer.states) answer)

-- 13 for the answer; 13 for the registers; 12; 1 for a condition number over 255; then the run
unfoldable pub run_call : List ℕ → List ℕ → List ℕ → List ℕ → ℕ → ℕ → List ℕ → Left
run_call board rom ram regs stop budget answer =
    let halted : Refusal → Left = λ f. leaving ram regs (tell (run_answer (Halted f) 0 0) answer) in
    cond (ltb (length answer) 6) (left 13 ram regs answer)
    (cond (ltb (length regs) registers_length) (halted (LentTooShort registers_length))
    (cond (ltb 1000000 budget) (halted BudgetTooLarge)
    (cond (ltb 255 (get_or regs 9 0)) (halted BadBoard)
    (run_left (run_of (board_of board) rom ram (registers_of regs) stop budget) regs answer))))
