-- What the decoder finds stands in the code list: an instruction whose code begins the bytes, or one of whose code they are a proper beginning.
use Rattle.std.specs.Prelude.{Option, Some, None, Result, Ok, Err}
use Prim.Native.Nat.{ℕ, ◌+◌, ◌*◌, ◌/◌, ◌<◌}
use mathlib.Core.Path.{◌≡◌, refl, sym, ap, ◌∙◌, subst}
use mathlib.Core.Logic.{◌⊎◌, inl, inr}
use mathlib.Core.Bool.{Bool, true, false}
use mathlib.Core.List.{List, [], ◌∷◌, ◌++◌, append_assoc}
use native.Mathlib.Omega.{arith}
use lib.Dec.{eqb}
use lib.ListN.{length, length-append}
use borrow.Author.Tests.{eqb-true, eqb-false}
use Rattle.decoder.specs.Names.{Long, Or, Reg, Eight, Signed, Btst, Bset, Numbered, AtEr, AtAbs, Load, At, Instruction, Nop, Alu, Multiply, Divide, Takes, Gives, Move, Rts, Rest, Plan, Whole, Lacks, Tail, Bits16}
use Rattle.decoder.specs.Names.{Bits24, Bits32, Fault, Cut, Unlisted}
use Rattle.codes.specs.Code.{code_of}
use Rattle.codes.specs.Valid.{Valid}
use Rattle.codes.specs.Exact.{Bytes, Begins, CutOf}
use Rattle.decoder.specs.MirrorDecode.{tail_of_rest, fill_of, with16, with32, with24, by_tail, finish_of, begun_of, two_words, starts_of, prefix01, prefix_of, prefixed_of, found_of}
use Rattle.decoder.specs.MirrorWords.{pick, plan_of, after_of}
use Rattle.decoder.proofs.Complete.{word_first, word_second, sixteen, thirty_two, zero_first, not_zero_first}
use Rattle.decoder.proofs.Good.{Codes, Good2, Good3, Good4, GoodTail, Good, if≡, if_e_zero, four≡, plan_good, after_good}

-- what an answer says of the bytes, but for `Unlisted`
abbrev pub Faulty : List ℕ → Fault → Type 0
Faulty s Cut = (i : Instruction) × Valid i × CutOf s (code_of i)
Faulty s Unlisted = Unit {0}

abbrev pub Sound : List ℕ → Result (Instruction × ℕ) Fault → Type 0
Sound s (Ok (i, n)) = Valid i × (n ≡ length (code_of i)) × Begins (code_of i) s
Sound s (Err f) = Faulty s f

by : (s : List ℕ) {r r' : Result (Instruction × ℕ) Fault} → r' ≡ r → Sound s r → Sound s r'
by s e h = subst (λ r. Sound s r) (sym e) h

dec≡ : (x k : ℕ) → (x ≡ k) ⊎ (x ≡ k → ⊥)
dec≡ x k = go (eqb x k) refl
  where
    go : (t : Bool) → eqb x k ≡ t → (x ≡ k) ⊎ (x ≡ k → ⊥)
    go true e = inl (eqb-true x k e)
    go false e = inr (eqb-false x k e)

module _ (pre : List ℕ) (a b : ℕ) where
  -- a whole code, and the rest
  found : (i : Instruction) (t rest : List ℕ) (n : ℕ) → Codes pre a b i t → n ≡ length pre + (2 + length t) → Sound (pre ++ (a ∷ b ∷ (t ++ rest))) (Ok (i, n))
  found i t rest n g e = (
    g.0,
    e ∙ sym (ap length g.1 ∙ length-append pre (a ∷ b ∷ t) ∙ omega arith),
    (rest, sym (append_assoc pre (a ∷ b ∷ t) rest) ∙ ap (λ l. l ++ rest) (sym g.1)),
  )

  -- a proper beginning of a code
  begun : (i : Instruction) (s : List ℕ) (x : ℕ) (u : List ℕ) → Codes pre a b i (s ++ (x ∷ u)) → Faulty (pre ++ (a ∷ b ∷ s)) Cut
  begun i s x u g = (i, g.0, (x, u, g.1 ∙ sym (append_assoc pre (a ∷ b ∷ s) (x ∷ u))))

  sound16 : (q : Rest) → Good2 pre a b q → (t : List ℕ) → Bytes t → (n : ℕ) → n ≡ length pre + 2 → Sound (pre ++ (a ∷ b ∷ t)) (with16 q t n)
  sound16 q g [] h n e = begun (fill_of q (0 * 256 + 0)) [] 0 (0 ∷ []) (g 0 0 (omega arith) (omega arith))
  sound16 q g (x ∷ []) h n e = begun (fill_of q (x * 256 + 0)) (x ∷ []) 0 [] (g x 0 h.0 (omega arith))
  sound16 q g (x ∷ y ∷ t) h n e =
      by (pre ++ (a ∷ b ∷ x ∷ y ∷ t)) (sixteen q x y t n)
      (found (fill_of q (x * 256 + y)) (x ∷ y ∷ []) t (n + 2) (g x y h.0 h.1.0) (omega arith))

  -- the four bytes, of which the first is there
  sound32_from : (q : Rest) (x : ℕ)
      → ((y z w : ℕ) → y < 256 → z < 256 → w < 256 → Codes pre a b (fill_of q (x * 16777216 + y * 65536 + z * 256 + w)) (x ∷ y ∷ z ∷ w ∷ []))
      → (t : List ℕ) → Bytes t → (n : ℕ) → n ≡ length pre + 2 → Sound (pre ++ (a ∷ b ∷ x ∷ t)) (with32 q (x ∷ t) n)
  sound32_from q x g [] h n e = begun (fill_of q (x * 16777216 + 0 * 65536 + 0 * 256 + 0)) (x ∷ []) 0 (0 ∷ 0 ∷ []) (g 0 0 0 (omega arith) (omega arith) (omega arith))
  sound32_from q x g (y ∷ []) h n e =
      begun (fill_of q (x * 16777216 + y * 65536 + 0 * 256 + 0)) (x ∷ y ∷ []) 0 (0 ∷ []) (g y 0 0 h.0 (omega arith) (omega arith))
  sound32_from q x g (y ∷ z ∷ []) h n e =
      begun (fill_of q (x * 16777216 + y * 65536 + z * 256 + 0)) (x ∷ y ∷ z ∷ []) 0 [] (g y z 0 h.0 h.1.0 (omega arith))
  sound32_from q x g (y ∷ z ∷ w ∷ t) h n e =
      by (pre ++ (a ∷ b ∷ x ∷ y ∷ z ∷ w ∷ t)) (thirty_two q x y z w t n)
      (found (fill_of q (x * 16777216 + y * 65536 + z * 256 + w)) (x ∷ y ∷ z ∷ w ∷ []) t (n + 4) (g y z w h.0 h.1.0 h.1.1.0) (omega arith))

  sound32 : (q : Rest) → Good4 pre a b q → (t : List ℕ) → Bytes t → (n : ℕ) → n ≡ length pre + 2 → Sound (pre ++ (a ∷ b ∷ t)) (with32 q t n)
  sound32 q g [] h n e =
      begun (fill_of q (0 * 16777216 + 0 * 65536 + 0 * 256 + 0)) [] 0 (0 ∷ 0 ∷ 0 ∷ []) (g 0 0 0 0 (omega arith) (omega arith) (omega arith) (omega arith))
  sound32 q g (x ∷ t) h n e = sound32_from q x (λ y z w. g x y z w h.0) t h.1 n e

  sound24 : (q : Rest) → Good3 pre a b q → (t : List ℕ) → Bytes t → (n : ℕ) → n ≡ length pre + 2 → Sound (pre ++ (a ∷ b ∷ t)) (with24 q t n)
  sound24 q g [] h n e =
      begun (fill_of q (0 * 16777216 + 0 * 65536 + 0 * 256 + 0)) [] 0 (0 ∷ 0 ∷ 0 ∷ []) (g 0 0 0 (omega arith) (omega arith) (omega arith))
  sound24 q g (x ∷ t) h n e = go (dec≡ x 0)
    where
      go : (x ≡ 0) ⊎ (x ≡ 0 → ⊥) → Sound (pre ++ (a ∷ b ∷ x ∷ t)) (with24 q (x ∷ t) n)
      go (inl z) =
          by (pre ++ (a ∷ b ∷ x ∷ t)) (zero_first q x t n z)
          (subst (λ v. Sound (pre ++ (a ∷ b ∷ v ∷ t)) (with32 q (v ∷ t) n)) (sym z) (sound32_from q 0 g t h.1 n e))
      go (inr z) = by (pre ++ (a ∷ b ∷ x ∷ t)) (not_zero_first q x t n z) tt

  tail_sound : (k : Tail) (q : Rest) → GoodTail k pre a b q → (t : List ℕ) → Bytes t → (n : ℕ) → n ≡ length pre + 2 → Sound (pre ++ (a ∷ b ∷ t)) (by_tail k q t n)
  tail_sound Bits16 q g t h n e = sound16 q g t h n e
  tail_sound Bits24 q g t h n e = sound24 q g t h n e
  tail_sound Bits32 q g t h n e = sound32 q g t h n e

  finish_sound : (p : Option Plan) → Good pre a b p → (t : List ℕ) → Bytes t → (n : ℕ) → n ≡ length pre + 2 → Sound (pre ++ (a ∷ b ∷ t)) (finish_of p t n)
  finish_sound (Some (Whole i)) g t h n e = found i [] t n g e
  finish_sound (Some (Lacks q)) g t h n e = tail_sound (tail_of_rest q) q g t h n e
  finish_sound None g t h n e = tt

-- a byte that begins a word, where its second byte is 0
module _ (pre : List ℕ) (a : ℕ) where
  first_byte : (i : Instruction) (t : List ℕ) → Codes pre a 0 i t → Faulty (pre ++ (a ∷ [])) Cut
  first_byte i t g = (i, g.0, (0, t, g.1 ∙ sym (append_assoc pre (a ∷ []) (0 ∷ t))))

  first_tail : (k : Tail) (q : Rest) → GoodTail k pre a 0 q → Faulty (pre ++ (a ∷ [])) Cut
  first_tail Bits16 q g = first_byte (fill_of q (0 * 256 + 0)) (0 ∷ 0 ∷ []) (g 0 0 (omega arith) (omega arith))
  first_tail Bits24 q g =
      first_byte (fill_of q (0 * 16777216 + 0 * 65536 + 0 * 256 + 0)) (0 ∷ 0 ∷ 0 ∷ 0 ∷ []) (g 0 0 0 (omega arith) (omega arith) (omega arith))
  first_tail Bits32 q g =
      first_byte (fill_of q (0 * 16777216 + 0 * 65536 + 0 * 256 + 0)) (0 ∷ 0 ∷ 0 ∷ 0 ∷ []) (g 0 0 0 0 (omega arith) (omega arith) (omega arith) (omega arith))

  begun_sound : (p : Option Plan) → Good pre a 0 p → Faulty (pre ++ (a ∷ [])) (begun_of p)
  begun_sound (Some (Whole i)) g = first_byte i [] g
  begun_sound (Some (Lacks q)) g = first_tail (tail_of_rest q) q g
  begun_sound None g = tt

-- the first byte of an instruction's two words
first_of : (a : ℕ) (i : Instruction) {k c : ℕ} → Valid i → code_of i ≡ k ∷ 0 ∷ c ∷ 0 ∷ [] → a ≡ k → Faulty (a ∷ []) Cut
first_of a i {c = c} v e h = (i, v, (0, c ∷ 0 ∷ [], e ∙ four≡ [] (sym h) refl refl refl))

start_sound : (a : ℕ) → a < 256 → Faulty (a ∷ []) (starts_of a)
start_sound a h =
    if≡ P a 0x01 (first_of a (Move Load Long (At 0) 0) (omega arith, omega arith) refl) λ n01.
    if≡ P a 0x7C (first_of a (Takes Btst (Numbered 0) (AtEr 0)) (omega arith, omega arith) refl) λ n7C.
    if≡ P a 0x7D (first_of a (Gives Bset (Numbered 0) (AtEr 0)) (omega arith, omega arith) refl) λ n7D.
    if≡ P a 0x7E (first_of a (Takes Btst (Numbered 0) (AtAbs 0)) (omega arith, omega arith) refl) λ n7E.
    if≡ P a 0x7F (first_of a (Gives Bset (Numbered 0) (AtAbs 0)) (omega arith, omega arith) refl) λ n7F.
    if≡ (Faulty (a ∷ [])) a 0x54 (λ k. (Rts, tt, (0x70, [], ap (λ x. x ∷ 0x70 ∷ []) (sym k)))) λ n54.
    begun_sound [] a (plan_of a 0) (plan_good a 0 (omega arith) h)
  where
    P : Bool → Type 0
    P two = Faulty (a ∷ []) (pick two Cut (pick (eqb a 0x54) Cut (begun_of (plan_of a 0))))

-- an instruction's first word
word_of : (a b : ℕ) (i : Instruction) (c : ℕ) → Valid i → code_of i ≡ a ∷ b ∷ c ∷ 0 ∷ [] → Faulty (a ∷ b ∷ []) Cut
word_of a b i c v e = (i, v, (c, 0 ∷ [], e))

prefix01_sound : (b : ℕ) → Faulty (1 ∷ b ∷ []) (prefix01 b)
prefix01_sound b =
    if≡ (Faulty (1 ∷ b ∷ [])) b 0x00 (λ k. word_of 1 b (Move Load Long (At 0) 0) 0x69 (omega arith, omega arith) (four≡ [] refl (sym k) refl refl)) λ n0.
    if≡ (Faulty (1 ∷ b ∷ [])) b 0xC0 (λ k. word_of 1 b (Multiply Signed Eight 0 0) 0x50 (omega arith, omega arith) (four≡ [] refl (sym k) refl refl)) λ nC0.
    if≡ (Faulty (1 ∷ b ∷ [])) b 0xD0 (λ k. word_of 1 b (Divide Signed Eight 0 0) 0x51 (omega arith, omega arith) (four≡ [] refl (sym k) refl refl)) λ nD0.
    if≡ (Faulty (1 ∷ b ∷ [])) b 0xF0 (λ k. word_of 1 b (Alu Or Long (Reg 0) 0) 0x64 (omega arith) (four≡ [] refl (sym k) refl refl)) λ nF0. tt

prefix_sound : (a b : ℕ) → b < 256 → Faulty (a ∷ b ∷ []) (prefix_of a b)
prefix_sound a b hb =
    if≡ (Faulty (a ∷ b ∷ [])) a 0x01 (λ k. subst (λ x. Faulty (x ∷ b ∷ []) (prefix01 b)) (sym k) (prefix01_sound b)) λ n01.
    if≡ P a 0x7C (λ k. if_e_zero P b (λ z e. word_of a b (Takes Btst (Numbered 0) (AtEr (b / 16))) 0x73 (omega arith, e) (four≡ [] (sym k) (omega arith) refl refl)) tt) λ n7C.
    if≡ P a 0x7D (λ k. if_e_zero P b (λ z e. word_of a b (Gives Bset (Numbered 0) (AtEr (b / 16))) 0x70 (omega arith, e) (four≡ [] (sym k) (omega arith) refl refl)) tt) λ n7D.
    if≡ P a 0x7E (λ k. word_of a b (Takes Btst (Numbered 0) (AtAbs b)) 0x73 (omega arith, hb) (four≡ [] (sym k) refl refl refl)) λ n7E.
    if≡ P a 0x7F (λ k. word_of a b (Gives Bset (Numbered 0) (AtAbs b)) 0x70 (omega arith, hb) (four≡ [] (sym k) refl refl refl)) λ n7F. tt
  where
    P : Bool → Type 0
    P named = Faulty (a ∷ b ∷ []) (pick named Cut Unlisted)

prefixed_sound : (a b : ℕ) → b < 256 → (t : List ℕ) → Bytes t → Sound (a ∷ b ∷ t) (prefixed_of a b t)
prefixed_sound a b hb [] h = prefix_sound a b hb
prefixed_sound a b hb (c ∷ []) h = begun_sound (a ∷ b ∷ []) c (after_of a b c 0) (after_good c 0 (omega arith) a b hb)
prefixed_sound a b hb (c ∷ d ∷ t) h =
    by (a ∷ b ∷ c ∷ d ∷ t) (word_second a b c d t)
    (finish_sound (a ∷ b ∷ []) c d (after_of a b c d) (after_good c d h.1.0 a b hb) t h.1.1 4 refl)

both : (s : List ℕ) (two : Bool) (r r' : Result (Instruction × ℕ) Fault) → Sound s r → Sound s r' → Sound s (pick two r r')
both s true r r' h h' = h
both s false r r' h h' = h'

pub sound : (s : List ℕ) → Bytes s → Sound s (found_of s)
sound [] h = (Nop, tt, (0, 0 ∷ [], refl))
sound (a ∷ []) h = start_sound a h.0
sound (a ∷ b ∷ t) h =
    by (a ∷ b ∷ t) (word_first a b t)
    (both (a ∷ b ∷ t) (two_words a) (prefixed_of a b t) (finish_of (plan_of a b) t 2) (prefixed_sound a b h.1.0 t h.1.1)
    (finish_sound [] a b (plan_of a b) (plan_good a b h.1.0 h.0) t h.1.1 2 refl))
