-- A run along the records of a recording, as far as each of them describes the moment before its step. Nothing here is to be believed: a replay promises
-- what its own definition says, byte by byte.
use Rattle.std.specs.Prelude.{ℕ, zero, suc, ◌+◌, ◌*◌, ◌/◌, ◌%◌, ◌^◌, ◌≤◌, ◌<◌, Bool, true, false, cond, not, List, ltb, eqb, length, get_or}
use Rattle.arith.specs.Widths.{num}
use Rattle.refusal.specs.declared.Refusal.TheVariants.{BadBoard, BudgetTooLarge}
use Rattle.registers.specs.Condition.{byte_of}
use Rattle.registers.specs.declared.Condition.{Condition}
use Rattle.registers.specs.declared.Registers.{Registers}
use Rattle.memory.specs.declared.Board.{Board}
use Rattle.step.specs.Step.{step_of, good_start}
use Rattle.run.specs.Run.{Ran, ran, told, onward}
use Rattle.run.specs.declared.Ending.TheVariants.{AtStop, Spent, Halted}

-- a number with one byte more below it, in 32 bits
abbrev pub longer : ℕ → ℕ → ℕ
longer n x = n % 2 ^ 24 * 256 + x

abbrev pub two_at : List ℕ → ℕ → ℕ
two_at w i = longer (longer 0 (get_or w i 0)) (get_or w (i + 1) 0)

abbrev pub four_at : List ℕ → ℕ → ℕ
four_at w i = longer (longer (longer (longer 0 (get_or w i 0)) (get_or w (i + 1) 0)) (get_or w (i + 2) 0)) (get_or w (i + 3) 0)

-- four flags, each in a byte of its own
abbrev pub apart : Bool → Bool → Bool → Bool → ℕ
apart a b c d = num a + 256 * num b + 65536 * num c + 16777216 * num d

-- the record that begins at byte i does not describe this moment
abbrev pub differs_at : List ℕ → ℕ → ℕ → Condition → ℕ → Bool
differs_at w i pc f states =
    cond (eqb (two_at w i) 9)
    (cond (eqb (four_at w (i + 2)) pc)
    (cond (eqb (get_or w (i + 6) 0) (byte_of f)) (not (eqb (four_at w (i + 7)) states)) true)
    true)
    true

-- without records nothing differs
unfoldable pub strays_of : List ℕ → ℕ → ℕ → Condition → ℕ → Bool
strays_of w steps pc f states = cond (eqb (length w) 0) false (differs_at w (steps * 11) pc f states)

-- if there are records, there are n
pub record Covers (w : List ℕ) (n : ℕ) : Type 0 where
  pub there : 0 < length w → n * 11 ≤ length w

-- `run_from`, which also stops before a step whose record differs
module _ (b : Board) (rom : List ℕ) (stop : ℕ) (w : List ℕ) where
  unfoldable pub along_from : ℕ → List ℕ → Registers → ℕ → ℕ → Ran
  along_from zero ram r steps states =
      cond (eqb r.pc stop) (ran (told r steps states AtStop) ram) (ran (told r steps states Spent) ram)
  along_from (suc n) ram r steps states =
      cond (eqb r.pc stop) (ran (told r steps states AtStop) ram)
      (cond (strays_of w steps r.pc r.condition states) (ran (told r steps states AtStop) ram)
      (onward (step_of b rom ram r).answer.outcome
      (along_from n (step_of b rom ram r).mem (step_of b rom ram r).answer.regs (steps + 1)
      (states + (step_of b rom ram r).answer.states))
      (λ f. ran (told r steps states (Halted f)) (step_of b rom ram r).mem)))

-- 12, then 1, then steps, after so many states
unfoldable pub start_of : Board → List ℕ → List ℕ → Registers → ℕ → ℕ → List ℕ → ℕ → Ran
start_of b rom ram r stop budget w states =
    cond (ltb 1000000 budget) (ran (told r 0 states (Halted BudgetTooLarge)) ram)
    (cond (good_start b rom ram r) (along_from b rom stop w budget ram r 0 states)
    (ran (told r 0 states (Halted BadBoard)) ram))

abbrev pub fewer_of : ℕ → ℕ → ℕ
fewer_of n m = cond (ltb n m) n m

-- from an odd stop address, where PC never is
abbrev pub along_of : Board → List ℕ → List ℕ → Registers → ℕ → List ℕ → ℕ → Ran
along_of b rom ram r budget w states = start_of b rom ram r 1 (fewer_of (length w / 11) budget) w states
