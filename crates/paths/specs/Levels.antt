-- The rows with d levels of calls left, as they stand while a table is filled: totals are held at 1,000,000,001, which stands for any that is above
-- 1,000,000,000. Nothing here is to be believed of the table that is left: that has the rows of `Paths`.
use Rattle.std.specs.Prelude.{◌≡◌, ℕ, ◌+◌, ◌%◌, ◌<◌, ◌≤◌, min, List, slice_index, Result}
use Rattle.refusal.specs.declared.Refusal.{Refusal}
use Rattle.paths.specs.declared.Reckoned.{Reckoned}
use Rattle.paths.specs.declared.Flow.{Flow}
use Rattle.paths.specs.Paths.{Largest, Clear, Lowest}
use Rattle.paths.specs.MirrorRows.{unpacked_of}

pub data Held (flow : ℕ → Result Flow Refusal) (d p : ℕ) : ℕ → ℕ → Type 0 where
  totals : {n : ℕ} → Clear flow d p → Largest flow d p n → Held flow d p (min n 1000000001) 16777215
  bars : {f : ℕ} → Lowest flow d p f → Held flow d p 0 f

abbrev pub HeldIs : (ℕ → Result Flow Refusal) → ℕ → ℕ → Reckoned → Type 0
HeldIs flow d p r = Held flow d p r.figure r.low

-- the packed rows of the places from i up, of a memory of `len` bytes: those with an even number of levels left stand at p, the others at p + 1
abbrev pub LevelFrom : (ℕ → Result Flow Refusal) → ℕ → List ℕ → ℕ → ℕ → Type 0
LevelFrom flow len table d i = (p : ℕ) → i ≤ p → p % 2 ≡ 0 → p < len → HeldIs flow d p (unpacked_of (slice_index table (p + d % 2)))
