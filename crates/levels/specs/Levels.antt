-- What `fill` answers, and what it leaves in the lent table; and what stands there while it is filled.
use Rattle.std.specs.Prelude.{◌≡◌, Bool, true, false, ◌&&◌, List, ℕ, suc, ◌+◌, ◌/◌, ◌%◌, ◌≤◌, ◌<◌, length, get_or, leb, eqb, Result}
use Rattle.refusal.specs.declared.Refusal.{Refusal}
use Rattle.paths.specs.declared.Flow.{Flow}
use Rattle.paths.specs.declared.Reckoned.{Reckoned}
use Rattle.paths.specs.Paths.{RowsFrom}
use Rattle.paths.specs.Levels.{HeldIs, LevelFrom}
use Rattle.paths.specs.MirrorRows.{barred, level_of, shown_of}
use Rattle.paths.specs.MirrorPacked.{noted_of, plain_of}

-- past the rows stands what stood there
abbrev pub Rest : ℕ → List ℕ → List ℕ → Type 0
Rest len before after = (i : ℕ) → len ≤ i → get_or after i 0 ≡ get_or before i 0

-- the table after: the row of every place, and past them what was there
pub record Filled (flow : ℕ → Result Flow Refusal) (len : ℕ) (before after : List ℕ) : Type 0 where
  pub same_length : length after ≡ length before
  pub rows : RowsFrom flow len after 0
  pub rest : Rest len before after

-- a memory of an even length up to 524,288, a table of as many numbers, and an even entry
unfoldable pub fitting : ℕ → ℕ → ℕ → Bool
fitting len lent entry = eqb (len % 2) 0 && (leb len 524288 && (leb len lent && eqb (entry % 2) 0))

-- the row of the entry with eight levels of calls left, and the table filled; where they do not fit, 0 and the entry, and the table as it was
abbrev pub FilledIf : Bool → (ℕ → Result Flow Refusal) → ℕ → ℕ → List ℕ → Reckoned → List ℕ → Type 0
FilledIf true flow len entry before r after = HeldIs flow 8 entry r × Filled flow len before after
FilledIf false flow len entry before r after = (r ≡ barred entry) × (after ≡ before)

-- while it is filled: what stands at each place is noted in the upper halves of its numbers
abbrev pub NotedFrom : (ℕ → Result Flow Refusal) → ℕ → List ℕ → ℕ → Type 0
NotedFrom flow len table i = (p : ℕ) → i ≤ p → p % 2 ≡ 0 → p < len → noted_of (get_or table p 0 / 4294967296) (get_or table (p + 1) 0 / 4294967296) ≡ plain_of (flow p)

-- the rows that calls ask for are those of the whole level below, where there is one
abbrev pub Callees : (ℕ → Result Flow Refusal) → ℕ → List ℕ → ℕ → Type 0
Callees flow len table d = (e : ℕ) → d ≡ suc e → LevelFrom flow len table e 0

-- all that the row of a place below i hangs on, with d levels of calls left
pub record Ready (flow : ℕ → Result Flow Refusal) (len : ℕ) (table : List ℕ) (d i : ℕ) : Type 0 where
  pub noted : NotedFrom flow len table 0
  pub below : Callees flow len table d
  pub rows : LevelFrom flow len table d i

-- what is lent is long enough, and d levels of calls are left
pub record Lent (len lent d : ℕ) : Type 0 where
  pub room : len ≤ lent
  pub levels : d ≤ 8

-- the costs of calls with d levels left are known
pub record Costed (flow : ℕ → Result Flow Refusal) (len d : ℕ) (before after : List ℕ) : Type 0 where
  pub same_length : length after ≡ length before
  pub noted : NotedFrom flow len after 0
  pub below : Callees flow len after d
  pub rest : Rest len before after

-- and those of paths from the places from i up
pub record Reached (flow : ℕ → Result Flow Refusal) (len d i : ℕ) (before after : List ℕ) : Type 0 where
  pub costed : Costed flow len d before after
  pub rows : LevelFrom flow len after d i

-- each place's two numbers are made of its packed row with eight levels left
abbrev pub ShownFrom : ℕ → List ℕ → List ℕ → ℕ → Type 0
ShownFrom len before after i =
    (p : ℕ) → i ≤ p → p % 2 ≡ 0 → p < len
    → (get_or after p 0 ≡ (shown_of p (level_of len before 8 p)).figure) × (get_or after (p + 1) 0 ≡ (shown_of p (level_of len before 8 p)).low)

pub record Unpacked (len : ℕ) (before after : List ℕ) : Type 0 where
  pub same_length : length after ≡ length before
  pub rows : ShownFrom len before after 0
  pub rest : Rest len before after
