-- A replay read as the repeated step, record by record: what `replay_of` comes to (proofs/Follows shows it).
use Rattle.std.specs.Prelude.{ℕ, ◌+◌, ◌*◌, ◌<◌, ◌≡◌, List, length, get_or, take, drop}
use Rattle.registers.specs.Condition.{byte_of}
use Rattle.registers.specs.declared.Registers.{Registers}
use Rattle.memory.specs.declared.Board.{Board}
use Rattle.machine.specs.Machine.{Steps}
use Rattle.step.specs.Processor.{State, processor}
use Rattle.replay.specs.Replay.{Replayed}

abbrev pub state : Registers → List ℕ → State
state r m = record { regs = r; mem = m }

-- four bytes from place i on, upper byte first
abbrev pub four : List ℕ → ℕ → ℕ
four h i = ((get_or h i 0 * 256 + get_or h (i + 1) 0) * 256 + get_or h (i + 2) 0) * 256 + get_or h (i + 3) 0

-- a record of eleven bytes that describes the moment with registers r, so many states after the start
pub record Describes (h : List ℕ) (r : Registers) (states : ℕ) : Type 0 where
  pub whole : length h ≡ 11
  pub length_nine : get_or h 0 0 * 256 + get_or h 1 0 ≡ 9
  pub same_pc : four h 2 ≡ r.pc
  pub same_condition : get_or h 6 0 ≡ byte_of r.condition
  pub same_states : four h 7 ≡ states

-- the record of number i, counted from 0; the version byte stands before the first
abbrev pub record_at : List ℕ → ℕ → List ℕ
record_at file i = take 11 (drop (i * 11 + 1) file)

abbrev pub Any : State → Type 0
Any s = Unit {0}

-- as many steps as records agreed, with the states answered, lead from the start to the registers and working memory answered; and each of these records
-- describes the moment before its step
pub record Followed (b : Board) (rom ram : List ℕ) (r : Registers) (file : List ℕ) (a : Replayed) : Type 0 where
  pub led : Steps (processor b rom) Any (state r ram) a.answer.replay.steps a.answer.replay.states (state a.answer.replay.regs a.mem)
  pub each : (i k : ℕ) (s : State) → i < a.answer.replay.steps → Steps (processor b rom) Any (state r ram) i k s → Describes (record_at file i) s.regs k
