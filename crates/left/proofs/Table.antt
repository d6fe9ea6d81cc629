-- How a row of the table is gone through, byte by byte.
use Prim.Native.Nat.{ℕ, zero, suc, ◌+◌, ◌-◌, ◌*◌, ◌%◌, ◌≤◌, ◌<◌}
use mathlib.Core.Path.{◌≡◌, refl}
use mathlib.Core.Bool.{Bool, true, false, ◌&&◌}
use mathlib.Core.List.{List, [], ◌∷◌}
use native.Mathlib.Omega.{arith}
use lib.ListN.{get_or, length, drop}
use lib.Seq.{drop-cons}
use Rattle.left.specs.Left.{Pattern, fits, agrees, group_in}
use Rattle.left.specs.MirrorTable.{between, patterns_in, Entry, entry_row, rows_in}

nothing_left : (c : List Pattern) → agrees c [] ≡ true
nothing_left [] = refl
nothing_left (p ∷ c) = refl

past : {A : Type 0} (k : ℕ) (s : List A) → length s ≤ k → drop k s ≡ []
past zero [] l = refl
past zero (x ∷ s) l = absurd (omega arith)
past (suc k) [] l = refl
past (suc k) (x ∷ s) l = past k s (omega arith)

-- what is left of a code, of which a and b have the next byte above, and of the bytes after j of them
module _ (s : List ℕ) (n j a b : ℕ) where
  abbrev pub rest : ℕ → ℕ → ℕ → Bool
  rest k c d = agrees (patterns_in (n - k) c d) (drop k s)

  pub one_more : j < n → j < length s
      → rest j a b ≡ fits (between a b) (get_or s j 0) && rest (j + 1) (a % 72057594037927936 * 256) (b % 72057594037927936 * 256 + 255)
  unfolding patterns_in
  one_more l m =
      let e : n - j ≡ suc (n - (j + 1)) = omega arith in
      let i : j + 1 ≡ suc j = omega arith in
      rw (e, i, drop-cons s j 0 m)

  -- a byte was compared, and f says whether it fits
  module _ (l : (j < n) × (j < length s)) (x : ℕ) (ex : x ≡ get_or s j 0) (f : Bool) (ef : f ≡ fits (between a b) x) where
    same : rest j a b ≡ f && rest (j + 1) (a % 72057594037927936 * 256) (b % 72057594037927936 * 256 + 255)
    same = rw (ef, ex) (one_more l.0 l.1)

    pub differs : f ≡ false → rest j a b ≡ false
    differs e = rw (same, e)

    pub goes_on : f ≡ true → rest j a b ≡ rest (j + 1) (a % 72057594037927936 * 256) (b % 72057594037927936 * 256 + 255)
    goes_on e = rw (same, e)

  pub all_gone : n ≤ j → rest j a b ≡ true
  unfolding patterns_in
  all_gone e = let z : n - j ≡ zero = omega arith in rw z

  pub at_end : length s ≤ j → rest j a b ≡ true
  at_end e = rw (past j s e, nothing_left)

-- the row agrees, or the search goes on after it
module _ (t : List Entry) (k : ℕ) (s : List ℕ) (d : Entry) (l : k < length t) where
  pub found : agrees (entry_row (get_or t k d)).code s ≡ true → group_in (rows_in (drop k t)) s ≡ (entry_row (get_or t k d)).group
  unfolding group_in rows_in
  found f = rw (drop-cons t k d l, f)

  pub passed : agrees (entry_row (get_or t k d)).code s ≡ false → group_in (rows_in (drop k t)) s ≡ group_in (rows_in (drop (k + 1) t)) s
  unfolding group_in rows_in
  passed f = let i : k + 1 ≡ suc k = omega arith in rw (i, drop-cons t k d l, f)

pub none : (t : List Entry) (k : ℕ) (s : List ℕ) → length t ≤ k → group_in (rows_in (drop k t)) s ≡ 0
unfolding group_in rows_in
none t k s l = rw (past k t l)
