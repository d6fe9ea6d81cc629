-- A list of accesses and its fields. The room that is left is known, so that the fields are known by the items. Assumes nothing.
use Rattle.std.specs.Prelude.{ℕ, zero, suc, ◌+◌, ◌-◌, ◌≡◌, ◌≤◌, ◌<◌, List, [], ◌∷◌, ◌++◌, length, set, take, replicate}
use Rattle.std.proofs.Common.{arith, refl, sym, ap, ◌∙◌, length-take-le, append_assoc}
use Rattle.std.proofs.lemmas.List.{take_all, take_more_set, set-append_right, length-append}
use Rattle.memory.specs.Told.{no_access}
use Rattle.memory.specs.declared.told.Access.{Access}

module _ (n : ℕ) (xs : List Access) (few : n ≤ 4) (long : length xs ≡ 4) where
  pub counted : length (take n xs) ≡ n
  counted = length-take-le n xs (omega (arith, few, long))

  module _ (room : xs ≡ take n xs ++ replicate (4 - n) no_access) where
    -- one more is written where the room begins, and the rest of it stays
    module _ (x : Access) (fits : n < 4) where
      pub room_after : set xs n x ≡ take (n + 1) (set xs n x) ++ replicate (4 - (n + 1)) no_access
      room_after =
          let e : 4 - n ≡ suc (4 - (n + 1)) = omega (arith, fits) in
          let z : n - n ≡ 0 = omega arith in
          ap (λ ys. set ys n x) (room ∙ ap (λ k. take n xs ++ replicate k no_access) e)
          ∙ set-append_right (take n xs) (no_access ∷ replicate (4 - (n + 1)) no_access) n n x counted (omega arith)
          ∙ ap (λ k. take n xs ++ set (no_access ∷ replicate (4 - (n + 1)) no_access) k x) z
          ∙ sym (append_assoc (take n xs) (x ∷ []) (replicate (4 - (n + 1)) no_access))
          ∙ ap (λ ys. ys ++ replicate (4 - (n + 1)) no_access) (sym (take_more_set xs n x (omega (arith, fits, long))))

-- what was cut off before is cut off at the end as well
pub take_in : {A : Type 0} → (n : ℕ) (s t : List A) → take n (take n s ++ t) ≡ take n (s ++ t)
take_in zero s t = refl
take_in (suc n) [] t = refl
take_in (suc n) (x ∷ s) t = ap (λ r. x ∷ r) (take_in n s t)

-- the items of a later list, one after the other
pub appended : (xs now later : List Access) (i : ℕ) (x : Access) (new : List Access) → now ≡ take 4 (xs ++ take i later)
    → take (i + 1) later ≡ take i later ++ x ∷ [] → new ≡ take 4 (now ++ x ∷ []) → new ≡ take 4 (xs ++ take (i + 1) later)
appended xs now later i x new h more e =
    e ∙ ap (λ s. take 4 (s ++ x ∷ [])) h ∙ take_in 4 (xs ++ take i later) (x ∷ [])
    ∙ ap (take 4) (append_assoc xs (take i later) (x ∷ []) ∙ ap (λ s. xs ++ s) (sym more))

-- one access or two behind a list of two at most: they fit
pub one_behind : (xs : List Access) (x : Access) {new : List Access} → length xs ≤ 2 → new ≡ take 4 (xs ++ x ∷ []) → new ≡ xs ++ x ∷ []
one_behind xs x few e = let l = length-append xs (x ∷ []) in e ∙ take_all 4 (xs ++ x ∷ []) (omega (arith, l, few))

pub two_behind : (xs : List Access) (x y : Access) (now : List Access) {new : List Access} → length xs ≤ 2 → now ≡ take 4 (xs ++ x ∷ [])
    → new ≡ take 4 (now ++ y ∷ []) → new ≡ xs ++ x ∷ y ∷ []
two_behind xs x y now few d e =
    let l = length-append xs (x ∷ y ∷ []) in
    e ∙ ap (λ s. take 4 (s ++ y ∷ [])) (one_behind xs x few d) ∙ ap (take 4) (append_assoc xs (x ∷ []) (y ∷ []))
    ∙ take_all 4 (xs ++ x ∷ y ∷ []) (omega (arith, l, few))
