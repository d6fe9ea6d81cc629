-- What `figure` answers, and what it leaves in the lent table. Document 01, "The routine's figure" and "Refusal numbers".
use Rattle.std.specs.Prelude.{◌≡◌, ◌⊎◌, ◌↔◌, List, Bool, cond, ◌&&◌, ℕ, ◌%◌, length, ltb, leb, eqb, Result, Ok, Err}
use Rattle.site.specs.declared.Site.{Site}
use Rattle.memory.specs.Board.{could_carry}
use Rattle.refusal.specs.declared.Refusal.{Refusal}
use Rattle.refusal.specs.declared.Refusal.TheVariants.{BadBoard, BadEntry, LentTooShort, TooLong}
use Rattle.paths.specs.declared.Flow.{Flow}
use Rattle.paths.specs.Paths.{Forbidden, Meets, Lowest, IsFigure, Over}
use Rattle.levels.specs.Levels.{Filled}
use Rattle.listing.specs.Listing.{flow_at}

-- the entry is even and inside
abbrev pub good_entry : ℕ → ℕ → Bool
good_entry len entry = eqb (entry % 2) 0 && ltb entry len

-- "Figure: 1, 8, 13, then by place": a memory of `len` bytes, and a table of `lent` numbers. It is 1 "if no good board with that code could carry" the
-- site: that `could_carry` says just this is the law of memory's `proofs/Carried.antt`
unfoldable pub asked_of : Site → ℕ → ℕ → ℕ → Result (Unit {0}) Refusal
asked_of k len lent entry =
    cond (could_carry k len)
    (cond (good_entry len entry)
    (cond (leb len lent)
    (Ok tt)
    (Err (LentTooShort len)))
    (Err (BadEntry entry)))
    (Err BadBoard)

-- the answer by the paths from the entry, with eight levels of calls left: the figure; 22, where nothing forbidden is met and the largest total is above
-- 1,000,000,000; or why the lowest forbidden place reached is forbidden
pub data Told (flow : ℕ → Result Flow Refusal) (entry : ℕ) : Result ℕ Refusal → Type 0 where
  longest : {n : ℕ} → IsFigure flow entry n → Told flow entry (Ok n)
  too_long : Over flow entry → Told flow entry (Err (TooLong entry))
  forbids : {d f : ℕ} {r : Refusal} → Lowest flow 8 entry f → Forbidden flow d f r → Told flow entry (Err r)

abbrev pub InOrder : Result (Unit {0}) Refusal → (ℕ → Result Flow Refusal) → ℕ → ℕ → List ℕ → Result ℕ Refusal → List ℕ → Type 0
InOrder (Err f) flow len entry before r after = (r ≡ Err f) × (after ≡ before)
InOrder (Ok tt) flow len entry before r after = Told flow entry r × Filled flow len before after

-- `figure` of the site k, `rom`, `entry` and the table `before` answers r and leaves the table `after`
pub record Figured (k : Site) (rom : List ℕ) (entry : ℕ) (before : List ℕ) (r : Result ℕ Refusal) (after : List ℕ) : Type 0 where
  pub in_order : InOrder (asked_of k (length rom) (length before) entry) (flow_at k rom) (length rom) entry before r after

-- with the site, the memory, the entry and the table fit, it is refused exactly when a path meets a forbidden place, or none does and the largest total is
-- above 1,000,000,000
abbrev pub RefusedExactly : Site → List ℕ → ℕ → List ℕ → Result ℕ Refusal → Type 0
RefusedExactly k rom entry before r =
    asked_of k (length rom) (length before) entry ≡ Ok tt
    → ((f : Refusal) × (r ≡ Err f)) ↔ (((f : ℕ) × Meets (flow_at k rom) 8 entry f) ⊎ Over (flow_at k rom) entry)
