-- host/h8.h, h8_replay: what it returns and leaves in the lent arrays.
use Rattle.std.specs.Prelude.{ℕ, cond, List, [], ◌∷◌, ltb, length, get_or}
use Rattle.refusal.specs.declared.Refusal.{Refusal}
use Rattle.refusal.specs.declared.Refusal.TheVariants.{BadBoard, LentTooShort}
use Rattle.replay.specs.Replay.{field_number, Replayed, replay_of}
use Rattle.replay.specs.declared.Report.{Report}
use Rattle.replay.specs.declared.Report.TheVariants.{Agreed, Differs, Halted}
use Rattle.layout.specs.Lent.{overwrite}
use Rattle.layout.specs.Board.{board_of}
use Rattle.layout.specs.Registers.{registers_length, registers_of, ten_of}
use Rattle.host.specs.Answers.{completed, refused_with, tell}
use Rattle.host.specs.Steps.{Left, left, leaving}

-- [number, place, group, records agreed, states, report, field]; enum h8_report, enum h8_differs
unfoldable pub replay_answer : Report → ℕ → ℕ → List ℕ
replay_answer Agreed steps states = completed (steps ∷ states ∷ 0 ∷ 0 ∷ [])
replay_answer (Differs f) steps states = completed (steps ∷ states ∷ 1 ∷ field_number f ∷ [])
replay_answer (Halted f) steps states = refused_with f (steps ∷ states ∷ 2 ∷ 0 ∷ [])

-- working memory and registers are as the replayed steps leave them, whatever the report
unfoldable pub replay_left : Replayed → List ℕ → List ℕ → Left
replay_left a regs answer =
    leaving a.mem (overwrite (ten_of a.answer.replay.regs) regs)
    (tell (replay_answer a.answer.report a.answer.replay.steps a.answer.replay.states) answer)

-- 13 for the answer; 13 for the registers; 1 for a condition number over 255; then the replay
unfoldable pub replay_call : List ℕ → List ℕ → List ℕ → List ℕ → List ℕ → List ℕ → Left
replay_call board rom ram regs file answer =
    let halted : Refusal → Left = λ f. leaving ram regs (tell (replay_answer (Halted f) 0 0) answer) in
    cond (ltb (length answer) 7) (left 13 ram regs answer)
    (cond (ltb (length regs) registers_length) (halted (LentTooShort registers_length))
    (cond (ltb 255 (get_or regs 9 0)) (halted BadBoard)
    (replay_left (replay_of (board_of board) rom ram (registers_of regs) file) regs answer)))
