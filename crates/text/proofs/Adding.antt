-- Texts that are added one after the other: cited by the proofs of what is made of parts.
use mathlib.Core.Path.{◌≡◌, refl, sym, ap, ◌∙◌}
use mathlib.Core.List.{List, [], ◌∷◌, ◌++◌}
use Prim.Native.Nat.{ℕ, suc, ◌+◌, ◌-◌, ◌≤◌, ◌<◌}
use mathlib.Core.Bool.{Bool, true, false}
use borrow.Author.Tests.{ltb-true, ltb-false}
use Rattle.std.proofs.Common.{ltb, min, arith, length-append, length, get_or, take, replicate}
use Rattle.std.proofs.lemmas.List.{take_more, replicate_more}
use Rattle.text.specs.Lines.{put_of, added}

pub added_append : (l s t : List ℕ) → added l (s ++ t) ≡ added (added l s) t
unfolding added
added_append l [] t = refl
added_append l (b ∷ s) t = added_append (put_of l b) s t

-- the next byte of a text
pub one_more : (l s : List ℕ) (i : ℕ) → i < length s → added l (take (i + 1) s) ≡ added (added l (take i s)) (get_or s i 0 ∷ [])
one_more l s i h = ap (λ x. added l x) (take_more s i 0 h) ∙ added_append l (take i s) (get_or s i 0 ∷ [])

-- a space more
pub space_more : (l : List ℕ) (k : ℕ) → added l (replicate (k + 1) 32) ≡ added (added l (replicate k 32)) (32 ∷ [])
space_more l k = ap (λ x. added l x) (sym (replicate_more k 32)) ∙ added_append l (replicate k 32) (32 ∷ [])

length_put : (l : List ℕ) (b : ℕ) (t : Bool) → ltb (length l) 192 ≡ t → length l ≤ 192 → length (put_of l b) ≡ min (length l + 1) 192
unfolding put_of
length_put l b true e h = rw e (omega (arith, ltb-true (length l) 192 e, length-append l (b ∷ [])))
length_put l b false e h = rw e (omega (arith, ltb-false (length l) 192 e))

-- a line that began blank is as long as its text, and holds 192 bytes at most
pub length_added : (l s : List ℕ) → length l ≤ 192 → length (added l s) ≡ min (length l + length s) 192
unfolding added
length_added l [] h = omega arith
length_added l (b ∷ s) h =
    let e : length (put_of l b) ≡ min (length l + 1) 192 = length_put l b _ refl h in
    let f : length (added (put_of l b) s) ≡ min (length (put_of l b) + length s) 192 = length_added (put_of l b) s (omega arith) in
    omega arith

-- spaces up to a column of it: as many as its text leaves room for
pub padded : (s : List ℕ) (k : ℕ) → k ≤ 192 → replicate {A = ℕ} (k - length (added [] s)) 32 ≡ replicate (k - length s) 32
padded s k h =
    let e : length (added [] s) ≡ min (0 + length s) 192 = length_added [] s (omega arith) in
    let f : k - length (added [] s) ≡ k - length s = omega arith in
    ap (λ n. replicate {A = ℕ} n 32) f

-- one text after another
pub more : (l s r t q : List ℕ) → r ≡ added l s → q ≡ added r t → q ≡ added l (s ++ t)
more l s r t q e f = f ∙ ap (λ x. added x t) e ∙ sym (added_append l s t)

-- a text that began blank, with spaces up to the column k
pub column : (s l r : List ℕ) (k : ℕ) → k ≤ 192 → l ≡ added [] s → r ≡ added l (replicate (k - length l) 32) → r ≡ added [] (s ++ replicate (k - length s) 32)
column s l r k h e f = rw (f, e, padded s k h) (sym (added_append [] s (replicate (k - length s) 32)))
