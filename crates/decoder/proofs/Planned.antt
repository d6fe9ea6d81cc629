-- The code plans the words of the bytes before it knows that they are whole, with 0 for a byte that is missing. It finds the same.
use Rattle.std.specs.Prelude.{Option, Result, Err}
use Prim.Native.Nat.{ℕ, ◌<◌, ◌≤◌}
use mathlib.Core.Bool.{Bool, true, false}
use mathlib.Core.Path.{◌≡◌, refl, sym, ap, subst, ◌∙◌}
use mathlib.Core.List.{List, [], ◌∷◌}
use native.Mathlib.Omega.{arith}
use lib.Dec.{ltb}
use lib.ListN.{length, get_or, drop}
use borrow.Author.Tests.{lt-ltb, le-ltb}
use Rattle.decoder.specs.Names.{Instruction, Plan, Fault}
use Rattle.decoder.specs.MirrorDecode.{finish_of, found_of, two_words, short_of, lead_of, planned_of}
use Rattle.decoder.specs.MirrorWords.{pick}
use Rattle.decoder.proofs.Complete.{word_only, two_words_lem, word_second}

-- as the code finds it
abbrev planned_first : List ℕ → Result (Instruction × ℕ) Fault
planned_first s =
    pick (ltb (length s) (lead_of (get_or s 0 0))) (Err (short_of (planned_of s) s))
    (finish_of (planned_of s) (drop (lead_of (get_or s 0 0)) s) (lead_of (get_or s 0 0)))

-- a byte that begins two words, and what follows it
after_two : (a : ℕ) → two_words a ≡ true → (s : List ℕ) → found_of (a ∷ s) ≡ planned_first (a ∷ s)
after_two a n [] = rw n
after_two a n (b ∷ []) = rw n
after_two a n (b ∷ c ∷ []) = rw n
after_two a n (b ∷ c ∷ d ∷ t) =
    two_words_lem a b (c ∷ d ∷ t) n ∙ word_second a b c d t ∙ rw (n, le-ltb (length (a ∷ b ∷ c ∷ d ∷ t)) 4 (omega arith))

-- another byte, and what follows it
after_other : (a : ℕ) → two_words a ≡ false → (s : List ℕ) → found_of (a ∷ s) ≡ planned_first (a ∷ s)
after_other a n [] = rw n
after_other a n (b ∷ t) = word_only a b t n ∙ rw (n, le-ltb (length (a ∷ b ∷ t)) 2 (omega arith))

planned_first_lem : (s : List ℕ) → found_of s ≡ planned_first s
planned_first_lem [] = refl
planned_first_lem (a ∷ s) = go (two_words a) refl
  where
    go : (two : Bool) → two_words a ≡ two → found_of (a ∷ s) ≡ planned_first (a ∷ s)
    go true n = after_two a n s
    go false n = after_other a n s

-- what the code has in hand: the first byte, how many bytes the words have, and their plan
module _ (s : List ℕ) {a n : ℕ} {p : Option Plan} (first : a ≡ get_or s 0 0) (lead : n ≡ lead_of a) (plan : p ≡ planned_of s) where
  pub too_few : length s < n → Err (short_of p s) ≡ found_of s
  too_few h =
      ap (λ q. Err (short_of q s)) plan
      ∙ sym (planned_first_lem s ∙ rw (lt-ltb (length s) (lead_of (get_or s 0 0)) (subst (λ k. length s < k) (lead ∙ ap lead_of first) h)))

  pub enough : n ≤ length s → finish_of p (drop n s) n ≡ found_of s
  enough h =
      let e = lead ∙ ap lead_of first in
      ap (λ q. finish_of q (drop n s) n) plan
      ∙ ap (λ k. finish_of (planned_of s) (drop k s) k) e
      ∙ sym (planned_first_lem s ∙ rw (le-ltb (length s) (lead_of (get_or s 0 0)) (subst (λ k. k ≤ length s) e h)))
