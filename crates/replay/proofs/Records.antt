-- Eleven bytes of a recording are one record. Assumes nothing.
use Rattle.std.specs.Prelude.{Result, Ok, Err}
use Prim.Native.Nat.{ℕ, ◌<◌}
use mathlib.Core.Path.{◌≡◌, refl, ◌∙◌, ap}
use mathlib.Core.Bool.{Bool, true, false, cond}
use mathlib.Core.List.{List, ◌∷◌}
use lib.Dec.{eqb}
use borrow.Author.Tests.{lt-leb}
use Rattle.refusal.specs.declared.Refusal.{Refusal}
use Rattle.refusal.specs.declared.Refusal.TheVariants.{BadLength}
use Rattle.step.specs.Step.{After, step_of}
use Rattle.memory.specs.declared.Board.{Board}
use Rattle.replay.specs.declared.Part.{Part}
use Rattle.replay.specs.declared.Report.TheVariants.{Halted}
use Rattle.replay.specs.declared.Stage.{Stage}
use Rattle.replay.specs.declared.Stage.TheVariants.{Records, Told}
use Rattle.replay.specs.declared.Standing.{Standing}
use Rattle.replay.specs.Replay.{Moment, moment, part, nothing, longer, grown, staged, begins, went, taken, compared, held, stage_taken, fed}
use Rattle.replay.proofs.Bytes.{told_stays}

-- what is compared, and the step after it, don't look at the stage
went_same : (o : Result (Unit {0}) Refusal) (s : After) (k : Standing) (g : Stage) → went o s (staged k g) ≡ went o s k
unfolding went
went_same (Ok tt) s k g = refl
went_same (Err f) s k g = refl

pub compared_same : (b : Board) (rom : List ℕ) (p : Part) (k : Standing) (g : Stage) (ram : List ℕ) → compared b rom p (staged k g) ram ≡ compared b rom p k ram
unfolding compared taken
compared_same b rom p k g ram = rw (went_same (step_of b rom ram k.regs).answer.outcome (step_of b rom ram k.regs) k g)

-- a whole record's numbers
abbrev pub whole_of : ℕ → ℕ → ℕ → ℕ → ℕ → ℕ → ℕ → ℕ → ℕ → ℕ → ℕ → Part
whole_of x0 x1 x2 x3 x4 x5 x6 x7 x8 x9 x10 =
    part 11 (longer (longer 0 x0) x1) (longer (longer (longer (longer 0 x2) x3) x4) x5) x6 (longer (longer (longer (longer 0 x7) x8) x9) x10)

module _ (b : Board) (rom ram : List ℕ) (k : Standing) (small : k.steps < 1000000) (x0 x1 x2 x3 x4 x5 x6 x7 x8 x9 x10 : ℕ) where
  abbrev whole : Part
  whole = whole_of x0 x1 x2 x3 x4 x5 x6 x7 x8 x9 x10

  abbrev two : Part
  two = part 2 whole.size 0 0 0

  abbrev at_record : Moment
  at_record = moment (staged k (Records nothing)) ram

  -- after the two bytes of the length
  lengths : (xs : List ℕ) → fed b rom at_record (x0 ∷ x1 ∷ xs)
      ≡ fed b rom (moment (staged k (cond (eqb two.size 9) (Records two) (Told (Halted (BadLength (begins k.steps)))))) ram) xs
  unfolding fed stage_taken held grown
  lengths xs = rw (lt-leb _ _ small)

  -- after the nine others
  nine : (xs : List ℕ) → fed b rom (moment (staged k (Records two)) ram) (x2 ∷ x3 ∷ x4 ∷ x5 ∷ x6 ∷ x7 ∷ x8 ∷ x9 ∷ x10 ∷ xs) ≡ fed b rom (compared b rom whole k ram) xs
  unfolding fed stage_taken held grown
  nine xs = ap (λ (m : Moment). fed b rom m xs) (compared_same b rom whole k (Records (part 10 two.size whole.pc x6 (longer (longer (longer 0 x7) x8) x9))) ram)

  -- 18 after two bytes, whatever follows; else the record is compared
  record_by : (xs : List ℕ) (t : Bool) → eqb two.size 9 ≡ t
      → fed b rom at_record (x0 ∷ x1 ∷ x2 ∷ x3 ∷ x4 ∷ x5 ∷ x6 ∷ x7 ∷ x8 ∷ x9 ∷ x10 ∷ xs)
      ≡ cond t (fed b rom (compared b rom whole k ram) xs) (moment (staged k (Told (Halted (BadLength (begins k.steps))))) ram)
  record_by xs true e = lengths _ ∙ rw e (nine xs)
  record_by xs false e = lengths _ ∙ rw e (told_stays b rom _ _ refl)

  pub eleven : (xs : List ℕ) → fed b rom at_record (x0 ∷ x1 ∷ x2 ∷ x3 ∷ x4 ∷ x5 ∷ x6 ∷ x7 ∷ x8 ∷ x9 ∷ x10 ∷ xs)
      ≡ cond (eqb two.size 9) (fed b rom (compared b rom whole k ram) xs) (moment (staged k (Told (Halted (BadLength (begins k.steps))))) ram)
  eleven xs = record_by xs _ refl
