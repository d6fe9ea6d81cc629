-- The addresses in eight numbers and a count, as the list that has the last first. Assumes nothing.
use Prim.Native.Nat.{ℕ, zero, suc, ◌+◌, ◌-◌, ◌%◌, ◌≤◌, ◌<◌}
use mathlib.Core.Path.{◌≡◌, refl, sym, ap, ◌∙◌}
use mathlib.Core.Bool.{false}
use mathlib.Core.List.{List, [], ◌∷◌}
use lib.Dec.{eqb}
use borrow.Author.Tests.{ne_eqb}
use native.Mathlib.Numerals.{add-one}
use native.Mathlib.Omega.{arith}
use lib.ListN.{length, get_or, set, length-set}
use lib.Seq.{get_or-set_same, get_or-set_other, set-get_or, set-set}
use Rattle.routine.specs.Routine.{in_order_of, kept_of}
use Rattle.routine.specs.MirrorTurn.{pushed_on, last_of, taken_off}
use Rattle.routine.specs.declared.Kept.{Kept}

pub record Carries (kept : Kept) (ks : List ℕ) : Type 0 where
  pub is : kept ≡ kept_of ks
  pub most : length ks ≤ 8

pub none_carried : Carries (kept_of []) []
none_carried = record { is = refl; most = omega arith }

eight : (ks : List ℕ) → length (in_order_of ks) ≡ 8
eight [] = refl
eight (k ∷ ks) = length-set (in_order_of ks) (length ks) k ∙ eight ks

abbrev noughts : ℕ → List ℕ
noughts zero = []
noughts (suc n) = 0 ∷ noughts n

nought : (n i : ℕ) → get_or (noughts n) i 0 ≡ 0
nought zero i = refl
nought (suc n) zero = refl
nought (suc n) (suc i) = nought n i

-- past the count stands 0
past : (ks : List ℕ) (i : ℕ) → length ks ≤ i → get_or (in_order_of ks) i 0 ≡ 0
past [] i l = nought 8 i
past (k ∷ ks) i l = get_or-set_other (in_order_of ks) (length ks) i k 0 (λ e. omega arith) ∙ past ks i (omega arith)

without_it : (k : ℕ) (ks : List ℕ) → set (in_order_of (k ∷ ks)) (length ks) 0 ≡ in_order_of ks
without_it k ks =
    set-set (in_order_of ks) (length ks) k 0
    ∙ ap (λ (x : ℕ). set (in_order_of ks) (length ks) x) (sym (past ks (length ks) (omega arith)))
    ∙ set-get_or (in_order_of ks) (length ks) 0

pub carry : (k : ℕ) (ks : List ℕ) → length ks < 8 → Carries (pushed_on (kept_of ks) k) (k ∷ ks)
carry k ks l =
    let at : length ks % 8 ≡ length ks = omega arith in
    record { is = rw (at, add-one); most = omega arith }

pub some : (k : ℕ) (ks : List ℕ) → eqb (length (k ∷ ks)) 0 ≡ false
some k ks = ne_eqb _ _ (λ e. omega arith)

module _ (k : ℕ) (ks : List ℕ) (most : length (k ∷ ks) ≤ 8) where
  at_last : (length (k ∷ ks) - 1) % 8 ≡ length ks
  at_last = omega arith

  pub last_is : last_of (kept_of (k ∷ ks)) ≡ k
  last_is = rw at_last (get_or-set_same (in_order_of ks) (length ks) k 0 (rw eight (omega arith)))

  pub take_off : Carries (taken_off (kept_of (k ∷ ks))) ks
  take_off =
      let c : length (k ∷ ks) - 1 ≡ length ks = omega arith in
      record { is = rw (at_last, c, without_it k ks); most = omega arith }
