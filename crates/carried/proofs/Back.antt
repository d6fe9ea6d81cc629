-- What is written of a replay is read back as it was. Assumes nothing.
use Prim.Native.Nat.{ℕ, ◌/◌, ◌%◌, ◌^◌, ◌<◌}
use mathlib.Core.Path.{◌≡◌, refl, ap}
use mathlib.Core.List.{List, [], ◌∷◌, ◌++◌}
use native.Mathlib.Nat.{mod-eq_of_lt}
use native.Mathlib.Omega.{arith}
use lib.ListN.{length, get_or}
use Rattle.refusal.specs.Refusals.{number_of, place_of, group_of}
use Rattle.refusal.specs.declared.Refusal.{Refusal}
use Rattle.refusal.specs.declared.Refusal.TheVariants.{BadBoard, FetchOutside, UnknownCode, CutShort, ReadOutside, WriteOutside, NoAdjustRow, BadEntry, NotFollowed, NotUpward, NotInstruction, BudgetTooLarge, LentTooShort, DivideFails, LeftOut, TooDeep, BadVersion, BadLength, Unfinished, ReplayEnded, TooLong}
use Rattle.registers.specs.declared.Registers.{Registers}
use Rattle.registers.proofs.Bytes.{condition_back, byte_small}
use Rattle.layout.specs.Registers.{registers_of, ten_of}
use Rattle.replay.specs.Replay.{standing}
use Rattle.replay.specs.declared.Field.TheVariants.{OfPc, OfCondition, OfStates}
use Rattle.replay.specs.declared.Report.{Report}
use Rattle.replay.specs.declared.Report.TheVariants.{Agreed, Differs, Halted}
use Rattle.replay.specs.declared.Stage.{Stage}
use Rattle.replay.specs.declared.Stage.TheVariants.{Version, Records, Told, Closed}
use Rattle.replay.specs.declared.Standing.{Standing}
use Rattle.carried.specs.Carried.{refusal_at, stage_at, part_of, report_of, standing_of, report_numbers, stage_numbers, numbers_of}

-- how many numbers
report_length : (t : Report) → length (report_numbers t) ≡ 5
unfolding report_numbers
report_length Agreed = refl
report_length (Differs f) = refl
report_length (Halted f) = refl

stage_length : (g : Stage) → length (stage_numbers g) ≡ 11
unfolding stage_numbers
stage_length Version = refl
stage_length (Records p) = refl
stage_length (Told t) = let n = report_length t in omega arith
stage_length Closed = refl

pub numbers_length : (k : Standing) → length (numbers_of k) ≡ 24
unfolding numbers_of ten_of
numbers_length k = let n = stage_length k.stage in omega arith

-- the sizes that the types have
abbrev pub RefusalFits : Refusal → Type 0
RefusalFits BadBoard = Unit {0}
RefusalFits (FetchOutside p) = Unit {0}
RefusalFits (UnknownCode p) = Unit {0}
RefusalFits (CutShort p) = Unit {0}
RefusalFits (ReadOutside p) = Unit {0}
RefusalFits (WriteOutside p) = Unit {0}
RefusalFits (NoAdjustRow p) = Unit {0}
RefusalFits (BadEntry p) = Unit {0}
RefusalFits (NotFollowed p) = Unit {0}
RefusalFits (NotUpward p) = Unit {0}
RefusalFits NotInstruction = Unit {0}
RefusalFits BudgetTooLarge = Unit {0}
RefusalFits (LentTooShort p) = Unit {0}
RefusalFits (DivideFails p) = Unit {0}
RefusalFits (LeftOut x) = x < 2 ^ 32
RefusalFits (TooDeep p) = Unit {0}
RefusalFits BadVersion = Unit {0}
RefusalFits (BadLength p) = Unit {0}
RefusalFits (Unfinished p) = Unit {0}
RefusalFits ReplayEnded = Unit {0}
RefusalFits (TooLong p) = Unit {0}

abbrev pub ReportFits : Report → Type 0
ReportFits Agreed = Unit {0}
ReportFits (Differs f) = Unit {0}
ReportFits (Halted f) = RefusalFits f

abbrev pub StageFits : Stage → Type 0
StageFits Version = Unit {0}
StageFits (Records p) = p.condition < 256
StageFits (Told t) = ReportFits t
StageFits Closed = Unit {0}

refusal_back : (f : Refusal) → RefusalFits f → refusal_at (number_of f) (place_of f) (group_of f) ≡ f
unfolding refusal_at
refusal_back BadBoard h = refl
refusal_back (FetchOutside p) h = refl
refusal_back (UnknownCode p) h = refl
refusal_back (CutShort p) h = refl
refusal_back (ReadOutside p) h = refl
refusal_back (WriteOutside p) h = refl
refusal_back (NoAdjustRow p) h = refl
refusal_back (BadEntry p) h = refl
refusal_back (NotFollowed p) h = refl
refusal_back (NotUpward p) h = refl
refusal_back NotInstruction h = refl
refusal_back BudgetTooLarge h = refl
refusal_back (LentTooShort p) h = refl
refusal_back (DivideFails p) h = refl
refusal_back (LeftOut x) h = ap (λ (y : ℕ). LeftOut y) (omega arith)
refusal_back (TooDeep p) h = refl
refusal_back BadVersion h = refl
refusal_back (BadLength p) h = refl
refusal_back (Unfinished p) h = refl
refusal_back ReplayEnded h = refl
refusal_back (TooLong p) h = refl

-- eight registers
eight : (l : List ℕ) → length l ≡ 8
    → get_or l 0 0 ∷ get_or l 1 0 ∷ get_or l 2 0 ∷ get_or l 3 0 ∷ get_or l 4 0 ∷ get_or l 5 0 ∷ get_or l 6 0 ∷ get_or l 7 0 ∷ [] ≡ l
eight [] q = absurd (omega arith)
eight (a ∷ []) q = absurd (omega arith)
eight (a ∷ b ∷ []) q = absurd (omega arith)
eight (a ∷ b ∷ c ∷ []) q = absurd (omega arith)
eight (a ∷ b ∷ c ∷ d ∷ []) q = absurd (omega arith)
eight (a ∷ b ∷ c ∷ d ∷ e ∷ []) q = absurd (omega arith)
eight (a ∷ b ∷ c ∷ d ∷ e ∷ f ∷ []) q = absurd (omega arith)
eight (a ∷ b ∷ c ∷ d ∷ e ∷ f ∷ g ∷ []) q = absurd (omega arith)
eight (a ∷ b ∷ c ∷ d ∷ e ∷ f ∷ g ∷ h ∷ []) q = refl
eight (a ∷ b ∷ c ∷ d ∷ e ∷ f ∷ g ∷ h ∷ x ∷ l) q = absurd (omega arith)

registers_back : (r : Registers) (rest : List ℕ) → length r.er ≡ 8 → registers_of (ten_of r ++ rest) ≡ r
unfolding registers_of ten_of
registers_back r rest q = rw (mod-eq_of_lt (byte_small r.condition), condition_back r.condition, eight r.er q)

module _ (r : Registers) (steps high low : ℕ) (rest : List ℕ) where
  abbrev line : Stage → List ℕ
  line g = (ten_of r ++ steps ∷ high ∷ low ∷ stage_numbers g) ++ rest

  report_back : (t : Report) → ReportFits t → report_of (line (Told t)) ≡ t
  unfolding ten_of stage_numbers report_numbers report_of
  report_back Agreed h = refl
  report_back (Differs OfPc) h = refl
  report_back (Differs OfCondition) h = refl
  report_back (Differs OfStates) h = refl
  report_back (Halted f) h = ap (λ (x : Refusal). Halted x) (refusal_back f h)

  stage_back : (g : Stage) → StageFits g → stage_at (get_or (line g) 13 0) (part_of (line g)) (report_of (line g)) ≡ g
  unfolding ten_of stage_numbers part_of
  stage_back Version h = refl
  stage_back (Records p) h = rw (mod-eq_of_lt h)
  stage_back (Told t) h = ap (λ (x : Report). Told x) (report_back t h)
  stage_back Closed h = refl

-- the sizes of a replay's values are those of their types
pub record Fits (k : Standing) : Type 0 where
  pub eight_registers : length k.regs.er ≡ 8
  pub stage_fits : StageFits k.stage

put_together : (k : Standing) (r : Registers) (m : ℕ) (g : Stage) → r ≡ k.regs → m ≡ k.states → g ≡ k.stage → standing r k.steps m g ≡ k
put_together k r m g p q o = rw (p, q, o)

pub back : (k : Standing) (rest : List ℕ) → Fits k → standing_of (numbers_of k ++ rest) ≡ k
unfolding standing_of numbers_of ten_of
back k rest h =
    put_together k _ _ _
    (registers_back k.regs ((k.steps ∷ k.states / 2 ^ 32 ∷ k.states % 2 ^ 32 ∷ stage_numbers k.stage) ++ rest) h.eight_registers)
    (omega arith)
    (stage_back k.regs k.steps (k.states / 2 ^ 32) (k.states % 2 ^ 32) rest k.stage h.stage_fits)
