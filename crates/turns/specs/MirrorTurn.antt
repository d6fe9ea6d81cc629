-- What an entry comes to where the registers lie. Nothing here is to be believed.
use Rattle.std.specs.Prelude.{ℕ, ◌+◌, ◌≡◌, List, [], Result, Ok, Err}
use Rattle.refusal.specs.declared.Refusal.{Refusal}
use Rattle.codes.specs.declared.Instruction.{Instruction}
use Rattle.registers.specs.declared.Condition.{Condition}
use Rattle.registers.specs.Lent.{lent}
use Rattle.registers.specs.Parts.{with_pc}
use Rattle.memory.specs.declared.Board.{Board}
use Rattle.codes.specs.Cycles.{Touch, touches_of}
use Rattle.moves.specs.Made.{trail_of}
use Rattle.step.specs.Step.{after, answered, act_of}
use Rattle.step.specs.declared.StepAnswer.{StepAnswer}
use Rattle.turns.specs.declared.Turn.{Turn}

abbrev pub turn : Condition → ℕ → ℕ → Result (Unit {0}) Refusal → Turn
turn f p n o = record { condition = f; pc = p; states = n; outcome = o }

-- a refused turn has the condition byte that was there, PC 0 and 0 states
unfoldable pub ended_of : Result (Unit {0}) Refusal → Condition → ℕ → ℕ → Turn
ended_of (Ok tt) f p n = turn f p n (Ok tt)
ended_of (Err x) f p n = turn f 0 0 (Err x)

-- The answer that a turn stands for, by the registers er as they lie AFTER it. Where it was refused, the equation with the step, whose answer has the registers
-- before it and no states, also says that nothing was written, and leaves one turn: `ended_of (Refused x)`.
unfoldable pub told_as : Result (Unit {0}) Refusal → List ℕ → ℕ → Turn → StepAnswer
told_as (Ok tt) er pc t = answered (with_pc (lent er pc t.condition) t.pc) t.states (Ok tt)
told_as (Err x) er pc t = answered (lent er (t.pc + pc) t.condition) t.states (Err x)

unfoldable pub told_in : List ℕ → ℕ → Turn → StepAnswer
told_in er pc t = told_as t.outcome er pc t

-- er, f and ram became er', the turn t and ram' as the decoded d says
abbrev pub TurnsOn : Result (Instruction × ℕ) Refusal → List ℕ → List ℕ → ℕ → Condition → Board → List ℕ → List ℕ → List ℕ → Turn → Type 0
TurnsOn d er er' pc f b rom ram ram' t = after (told_in er' pc t) ram' ≡ act_of d (lent er pc f) b rom ram

-- the same whatever the memories, where d has nothing to do with them
abbrev pub Turns : Result (Instruction × ℕ) Refusal → List ℕ → List ℕ → ℕ → Condition → Turn → Type 0
Turns d er er' pc f t = (b : Board) (rom ram : List ℕ) → TurnsOn d er er' pc f b rom ram ram t

-- what the decoded d touches, and a turn of it that noted those touches behind t where it was done, whatever PC is
abbrev pub touched_by : Result (Instruction × ℕ) Refusal → List Touch
touched_by (Ok (i, n)) = touches_of i
touched_by (Err f) = []

abbrev pub Trails : List Touch → List ℕ → Condition → ℕ → ℕ → Turn → Type 0
Trails ts er f t t' q = (pc : ℕ) → q.outcome ≡ Ok tt → t' ≡ trail_of (lent er pc f) t ts
