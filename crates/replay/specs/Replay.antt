-- Replay against a recording (document 02, W7). It is taken byte by byte, so that where it is cut can't matter (W8).
-- A recording: version byte 1, then records of eleven bytes: a two-byte length, 9; four bytes PC; the condition byte; four bytes of states since the start;
-- upper byte first. A record describes the moment before its instruction.
use Rattle.std.specs.Prelude.{ℕ, ◌+◌, ◌*◌, ◌%◌, ◌^◌, cond, ◌&&◌, List, [], ◌∷◌, eqb, ltb, leb, Result, Ok, Err}
use Rattle.refusal.specs.declared.Refusal.{Refusal}
use Rattle.refusal.specs.declared.Refusal.TheVariants.{BadBoard, BudgetTooLarge, BadVersion, BadLength, Unfinished, ReplayEnded}
use Rattle.registers.specs.Condition.{byte_of}
use Rattle.registers.specs.declared.Registers.{Registers}
use Rattle.memory.specs.declared.Board.{Board}
use Rattle.step.specs.Step.{After, step_of, good_start}
use Rattle.replay.specs.declared.Part.{Part}
use Rattle.replay.specs.declared.Field.{Field}
use Rattle.replay.specs.declared.Field.TheVariants.{OfPc, OfCondition, OfStates}
use Rattle.replay.specs.declared.Report.{Report}
use Rattle.replay.specs.declared.Report.TheVariants.{Agreed, Differs, Halted}
use Rattle.replay.specs.declared.Stage.{Stage}
use Rattle.replay.specs.declared.Stage.TheVariants.{Version, Records, Told, Closed}
use Rattle.replay.specs.declared.Standing.{Standing}
use Rattle.replay.specs.declared.Ended.{Ended}

-- the fields in the order in which they are compared; enum h8_differs
abbrev pub field_number : Field → ℕ
field_number OfPc = 1
field_number OfCondition = 2
field_number OfStates = 3

-- ---- what is read of the next record

abbrev pub part : ℕ → ℕ → ℕ → ℕ → ℕ → Part
part count size pc condition states = record { count = count; size = size; pc = pc; condition = condition; states = states }

abbrev pub nothing : Part
nothing = part 0 0 0 0 0

-- one more. Bytes of a record and steps are counted so: they stay far below 2^24, and any other number is answered too
abbrev pub more : ℕ → ℕ
more n = n % 2 ^ 24 + 1

-- a number with one byte more below it, in 32 bits
abbrev pub longer : ℕ → ℕ → ℕ
longer n x = n % 2 ^ 24 * 256 + x

-- one byte more: 0 and 1 are the length, 2 to 5 PC, 6 the condition byte, 7 to 10 the states
unfoldable pub grown : Part → ℕ → Part
grown p x =
    cond (ltb p.count 2) (part (more p.count) (longer p.size x) p.pc p.condition p.states)
    (cond (ltb p.count 6) (part (more p.count) p.size (longer p.pc x) p.condition p.states)
    (cond (ltb p.count 7) (part (more p.count) p.size p.pc x p.states)
    (part (more p.count) p.size p.pc p.condition (longer p.states x))))

-- ---- where a replay stands

-- with working memory: `steps` records agreed and as many steps were taken, with `states` states together
pub record Moment : Type 0 where
  pub replay : Standing
  pub mem : List ℕ

abbrev pub moment : Standing → List ℕ → Moment
moment k ram = record { replay = k; mem = ram }

abbrev pub standing : Registers → ℕ → ℕ → Stage → Standing
standing r steps states stage = record { regs = r; steps = steps; states = states; stage = stage }

-- at another stage
abbrev pub staged : Standing → Stage → Standing
staged k g = standing k.regs k.steps k.states g

-- the byte where the next record begins
abbrev pub begins : ℕ → ℕ
begins steps = steps % 2 ^ 24 * 11 + 1

-- a step after a record that agreed; a refused one ends the replay and leaves registers and working memory (`step_of`)
unfoldable pub went : Result (Unit {0}) Refusal → After → Standing → Moment
went (Ok tt) s k = moment (standing s.answer.regs (more k.steps) (k.states % 2 ^ 56 + s.answer.states) (Records nothing)) s.mem
went (Err f) s k = moment (standing s.answer.regs k.steps k.states (Told (Halted f))) s.mem

-- the version byte
unfoldable pub first_of : ℕ → Standing → Standing
first_of x k = staged k (cond (eqb x 1) (Records nothing) (Told (Halted BadVersion)))

module _ (b : Board) (rom : List ℕ) where
  unfoldable pub taken : Standing → List ℕ → Moment
  taken k ram = let s = step_of b rom ram k.regs in went s.answer.outcome s k

  -- a whole record: PC, the condition byte, the states of the steps before, in that order; where one differs no step is taken
  unfoldable pub compared : Part → Standing → List ℕ → Moment
  compared p k ram =
      cond (eqb p.pc k.regs.pc)
      (cond (eqb p.condition (byte_of k.regs.condition))
      (cond (eqb p.states k.states) (taken k ram)
      (moment (staged k (Told (Differs OfStates))) ram))
      (moment (staged k (Told (Differs OfCondition))) ram))
      (moment (staged k (Told (Differs OfPc))) ram)

  -- a record of which p is read: after two bytes its length is looked at, after eleven it is compared
  unfoldable pub held : Part → Standing → List ℕ → Moment
  held p k ram =
      cond (eqb p.count 2)
      (moment (staged k (cond (eqb p.size 9) (Records p) (Told (Halted (BadLength (begins k.steps)))))) ram)
      (cond (eqb p.count 11) (compared p k ram) (moment (staged k (Records p)) ram))

  -- one byte at a stage: the version; a byte of a record, the first of them only within 1,000,000 steps; what is told stays
  unfoldable pub stage_taken : Stage → ℕ → Standing → List ℕ → Moment
  stage_taken Version x k ram = moment (first_of x k) ram
  stage_taken (Records p) x k ram =
      cond (eqb p.count 0 && leb 1000000 k.steps) (moment (staged k (Told (Halted BudgetTooLarge))) ram) (held (grown p x) k ram)
  stage_taken (Told t) x k ram = moment k ram
  stage_taken Closed x k ram = moment k ram

  abbrev pub byte_taken : Moment → ℕ → Moment
  byte_taken s x = stage_taken s.replay.stage x s.replay s.mem

  unfoldable pub fed : Moment → List ℕ → Moment
  fed s [] = s
  fed s (x ∷ xs) = fed (byte_taken s x) xs

-- 1, then the version
unfoldable pub begun : Board → List ℕ → List ℕ → Registers → Standing
begun b rom ram r =
    standing r 0 0 (cond (good_start b rom ram r) Version (Told (Halted BadBoard)))

-- what the end of the recording says: 19 where the version or the rest of a record is missing; what was told stays; a second end is 20
unfoldable pub end_of : Stage → ℕ → Report
end_of Version steps = Halted (Unfinished 0)
end_of (Records p) steps = cond (eqb p.count 0) Agreed (Halted (Unfinished (begins steps)))
end_of (Told t) steps = t
end_of Closed steps = Halted ReplayEnded

abbrev pub ended : Standing → Report → Ended
ended k t = record { replay = k; report = t }

-- the end is declared
unfoldable pub ended_of : Standing → Ended
ended_of k = ended (staged k Closed) (end_of k.stage k.steps)

-- a replay's answer, and working memory after it
pub record Replayed : Type 0 where
  pub answer : Ended
  pub mem : List ℕ

abbrev pub replayed : Ended → List ℕ → Replayed
replayed a m = record { answer = a; mem = m }

abbrev pub closed : Moment → Replayed
closed s = replayed (ended_of s.replay) s.mem

-- the whole recording
unfoldable pub replay_of : Board → List ℕ → List ℕ → Registers → List ℕ → Replayed
replay_of b rom ram r file = closed (fed b rom (moment (begun b rom ram r) ram) file)
