-- host/h8.h, h8_replay_begin, h8_replay_take and h8_replay_end: what they return and leave in the lent arrays. A replay is carried from call to call as the
-- numbers of a lent array (`carried`).
use Rattle.std.specs.Prelude.{ℕ, cond, List, [], ◌∷◌, ltb, length, get_or, Option, Some, None}
use Rattle.replay.specs.declared.Report.{Report}
use Rattle.refusal.specs.declared.Refusal.TheVariants.{BadBoard, LentTooShort}
use Rattle.replay.specs.Replay.{moment, standing, begun, ended_of}
use Rattle.replay.specs.Cuts.{Arrived, said_of, deliver_of}
use Rattle.replay.specs.declared.Report.TheVariants.{Halted}
use Rattle.replay.specs.declared.Stage.TheVariants.{Told}
use Rattle.replay.specs.declared.Standing.{Standing}
use Rattle.carried.specs.Carried.{replay_length, numbers_of, standing_of}
use Rattle.layout.specs.Lent.{overwrite}
use Rattle.layout.specs.Board.{board_of}
use Rattle.layout.specs.Registers.{registers_length, registers_of}
use Rattle.host.specs.Answers.{Noted, completed, tell}
use Rattle.host.specs.Steps.{Left, left}
use Rattle.host.specs.Replays.{replay_answer}

-- what is returned, and the replay's numbers and the answer afterwards
pub record Carrying : Type 0 where
  pub returned : ℕ
  pub replay : List ℕ
  pub answer : List ℕ

abbrev pub carrying : ℕ → List ℕ → List ℕ → Carrying
carrying n k a = record { returned = n; replay = k; answer = a }

abbrev pub with_replay : List ℕ → Noted → Carrying
with_replay replay n = carrying n.returned replay n.answer

-- all agreed so far and more may come: H8_MORE; else as h8_replay's
unfoldable pub said_answer : Option Report → ℕ → ℕ → List ℕ
said_answer None steps states = completed (steps ∷ states ∷ 3 ∷ 0 ∷ [])
said_answer (Some t) steps states = replay_answer t steps states

-- the replay's numbers are those of k, and the answer says s
unfoldable pub carried_on : Standing → Option Report → List ℕ → List ℕ → Carrying
carried_on k s replay answer = with_replay (overwrite (numbers_of k) replay) (tell (said_answer s k.steps k.states) answer)

-- a lent array that is too short: 13, and nothing changes but the answer
abbrev pub too_short : ℕ → List ℕ → List ℕ → Carrying
too_short n replay answer = with_replay replay (tell (replay_answer (Halted (LentTooShort n)) 0 0) answer)

-- ---- h8_replay_begin

-- a condition number over 255 is 1, as on a board that is wrong: such a replay is over, and its end repeats 1
unfoldable pub start_of : List ℕ → List ℕ → List ℕ → List ℕ → Standing
start_of board rom ram regs =
    cond (ltb 255 (get_or regs 9 0)) (standing (registers_of regs) 0 0 (Told (Halted BadBoard))) (begun (board_of board) rom ram (registers_of regs))

-- 13 for the answer; 13 for the replay's numbers; 13 for the registers; then the start
unfoldable pub begin_call : List ℕ → List ℕ → List ℕ → List ℕ → List ℕ → List ℕ → Carrying
begin_call board rom ram regs replay answer =
    let k = start_of board rom ram regs in
    cond (ltb (length answer) 7) (carrying 13 replay answer)
    (cond (ltb (length replay) replay_length) (too_short replay_length replay answer)
    (cond (ltb (length regs) registers_length) (too_short registers_length replay answer)
    (carried_on k (said_of k.stage) replay answer)))

-- ---- h8_replay_take

abbrev pub beside : List ℕ → Carrying → Left
beside ram c = left c.returned ram c.replay c.answer

abbrev pub take_left : Arrived → List ℕ → List ℕ → Left
take_left a replay answer = beside a.mem (carried_on a.answer.replay a.answer.said replay answer)

-- 13 for the answer; 13 for the replay's numbers; then the delivery. (The third of what is left is the replay's numbers.)
unfoldable pub take_call : List ℕ → List ℕ → List ℕ → List ℕ → List ℕ → List ℕ → Left
take_call board rom ram replay bytes answer =
    cond (ltb (length answer) 7) (left 13 ram replay answer)
    (cond (ltb (length replay) replay_length) (beside ram (too_short replay_length replay answer))
    (take_left (deliver_of (board_of board) rom (moment (standing_of replay) ram) bytes) replay answer))

-- ---- h8_replay_end

-- 13 for the answer; 13 for the replay's numbers; then the end
unfoldable pub end_call : List ℕ → List ℕ → Carrying
end_call replay answer =
    let a = ended_of (standing_of replay) in
    cond (ltb (length answer) 7) (carrying 13 replay answer)
    (cond (ltb (length replay) replay_length) (too_short replay_length replay answer)
    (carried_on a.replay (Some a.report) replay answer))
