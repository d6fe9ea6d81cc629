-- The thirteen numbers of a step's list, as the code stores them: its count, and four accesses, one after the other. Assumes nothing.
use Prim.Native.Nat.{ℕ, zero, suc, ◌+◌, ◌-◌, ◌*◌, ◌≤◌, ◌<◌}
use mathlib.Core.Path.{◌≡◌, refl, subst, ◌∙◌}
use mathlib.Core.List.{List, [], ◌∷◌}
use native.Mathlib.Numerals.{add-one}
use native.Mathlib.Omega.{arith}
use lib.ListN.{length, set, get_or, drop}
use lib.Seq.{sets}
use Rattle.arith.specs.Widths.{num}
use Rattle.memory.specs.declared.told.Access.{Access}
use Rattle.host.specs.Answers.{noted, tell}
use Rattle.host.specs.Steps.{entries, touched, step_length}
use Rattle.host.specs.MirrorSteps.{no_entry, three}
use Rattle.host.proofs.Told.{stored_told}

-- three numbers stored one after the other are those of an access
pub access_stored : (x : Access) (i : ℕ) (l : List ℕ) {a b c : List ℕ} → a ≡ set l i x.place → b ≡ set a (i + 1) x.bytes
    → c ≡ set b (i + 2) (num x.write) → c ≡ sets l i (three x [])
access_stored x i l {a} {b} {c} p q r =
    let e : i + 1 ≡ suc i = omega arith in
    let f : i + 2 ≡ suc (suc i) = omega arith in
    subst (λ (k : ℕ). c ≡ set (set (set l i x.place) (suc i) x.bytes) k (num x.write)) f
    (subst (λ (k : ℕ). c ≡ set (set (set l i x.place) k x.bytes) (i + 2) (num x.write)) e (r ∙ rw (q, p)))

-- the accesses from number i on, one of them stored
entries_first : (n : ℕ) (xs : List Access) → entries (suc n) xs ≡ three (get_or xs 0 no_entry) (entries n (drop 1 xs))
entries_first n [] = refl
entries_first n (x ∷ xs) = refl

first_from : (xs : List Access) (i : ℕ) → get_or (drop i xs) 0 no_entry ≡ get_or xs i no_entry
first_from xs zero = refl
first_from [] (suc i) = refl
first_from (x ∷ xs) (suc i) = first_from xs i

rest_from : (xs : List Access) (i : ℕ) → drop 1 (drop i xs) ≡ drop (suc i) xs
rest_from [] zero = refl
rest_from [] (suc i) = refl
rest_from (x ∷ xs) zero = refl
rest_from (x ∷ xs) (suc i) = rest_from xs i

pub one_told : (l : List ℕ) (xs : List Access) (i : ℕ) → i < 4
    → sets (sets l (5 + 3 * i) (three (get_or xs i no_entry) [])) (5 + 3 * (i + 1)) (entries (4 - (i + 1)) (drop (i + 1) xs))
    ≡ sets l (5 + 3 * i) (entries (4 - i) (drop i xs))
one_told l xs i h =
    let e : 5 + 3 * (i + 1) ≡ suc (suc (suc (5 + 3 * i))) = omega arith in
    let f : 4 - i ≡ suc (4 - (i + 1)) = omega arith in
    rw (e, f, entries_first (4 - (i + 1)) (drop i xs), first_from xs i, rest_from xs i, add-one)

entries_length : (n : ℕ) (xs : List Access) → length (entries n xs) ≡ n * 3
entries_length zero xs = refl
entries_length (suc n) [] = omega (arith, entries_length n [])
entries_length (suc n) (x ∷ xs) = omega (arith, entries_length n xs)

-- four numbers, and these behind them
pub step_told_lem : (n p g s : ℕ) (xs : List Access) (l after after' : List ℕ) → step_length ≤ length l → after ≡ sets l 0 (n ∷ p ∷ g ∷ s ∷ [])
    → after' ≡ sets after 4 (touched xs) → noted n after' ≡ tell (n ∷ p ∷ g ∷ s ∷ touched xs) l
step_told_lem n p g s xs l after after' h e f =
    stored_told (n ∷ p ∷ g ∷ s ∷ touched xs) l (omega (arith, h, entries_length 4 xs)) (rw e at f)
