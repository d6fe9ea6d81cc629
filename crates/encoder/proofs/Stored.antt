-- The stores leave the code at the start of the lent bytes and the rest as it was; with the test of the fields these are the answers of `encode`.
use Rattle.std.specs.Prelude.{Option, Some, None, Result, Ok, Err}
use Prim.Native.Nat.{ℕ, ◌+◌, ◌%◌, ◌≤◌, ◌<◌}
use mathlib.Core.Path.{◌≡◌, refl, sym, ap, ap₂, ◌∙◌, subst}
use mathlib.Core.Bool.{Bool, true, false}
use mathlib.Core.List.{List, ◌∷◌, ◌++◌}
use native.Mathlib.Omega.{arith}
use native.Mathlib.Nat.{zero-add, mod-eq_of_lt}
use lib.Dec.{ltb}
use lib.ListN.{length, drop}
use lib.Seq.{sets, sets-eq}
use borrow.Author.Tests.{ltb-true, ltb-false, le-ltb, lt-ltb}
use Rattle.refusal.specs.declared.Refusal.{Refusal}
use Rattle.encoder.specs.Names.{Instruction, NotInstruction, LentTooShort, Tail, Bits16, Bits32, Parts}
use Rattle.codes.specs.Code.{code_of, length_of}
use Rattle.codes.specs.Valid.{Valid}
use Rattle.codes.specs.Exact.{Bytes, Encodes, written, not_instruction, too_short}
use Rattle.codes.proofs.Laws.{code_bytes}
use Rattle.encoder.specs.MirrorParts.{parts_of}
use Rattle.encoder.specs.MirrorValid.{valid_of}
use Rattle.encoder.specs.MirrorWrite.{set2, start_of, tail_size, size_of, prefix_set, tail_set, write_of, pick, answer_of, left_of}
use Rattle.encoder.proofs.Fields.{Says, says_valid}
use Rattle.encoder.proofs.Rendered.{tail_bytes, prefixed, render, code_is}

pub size_is : (h : Parts) → size_of h ≡ length (render h)
size_is h = go h.prefix h.tail
  where
    go : (p : Option (ℕ × ℕ)) (t : Option Tail) → start_of p + 2 + tail_size t ≡ length (prefixed p (h.a ∷ h.b ∷ tail_bytes t))
    go None None = refl
    go None (Some (Bits16 v)) = refl
    go None (Some (Bits32 v)) = refl
    go (Some (x, y)) None = refl
    go (Some (x, y)) (Some (Bits16 v)) = refl
    go (Some (x, y)) (Some (Bits32 v)) = refl

small : {x : ℕ} → x < 256 → x % 256 ≡ x
small h = mod-eq_of_lt h

-- a chain of stores is the bytes of the parts from the start on
stores : (h : Parts) (l : List ℕ) → Bytes (render h) → write_of h l ≡ sets l 0 (render h)
stores h l k = go h.prefix h.tail k
  where
    go : (p : Option (ℕ × ℕ)) (t : Option Tail) → Bytes (prefixed p (h.a ∷ h.b ∷ tail_bytes t))
        → tail_set (set2 (prefix_set l p) (start_of p) h.a h.b) (start_of p + 2) t ≡ sets l 0 (prefixed p (h.a ∷ h.b ∷ tail_bytes t))
    go None None w = simp (small w.0, small w.1.0)
    go None (Some (Bits16 v)) w = simp (small w.0, small w.1.0, small w.1.1.0)
    go None (Some (Bits32 v)) w = simp (small w.0, small w.1.0, small w.1.1.0)
    go (Some (x, y)) None w = simp (small w.0, small w.1.0, small w.1.1.0, small w.1.1.1.0)
    go (Some (x, y)) (Some (Bits16 v)) w = simp (small w.0, small w.1.0, small w.1.1.0, small w.1.1.1.0, small w.1.1.1.1.0)
    go (Some (x, y)) (Some (Bits32 v)) w = simp (small w.0, small w.1.0, small w.1.1.0, small w.1.1.1.0, small w.1.1.1.1.0)

wrote : (h : Parts) (l : List ℕ) → Bytes (render h) → size_of h ≤ length l → write_of h l ≡ render h ++ drop (length (render h)) l
wrote h l k f = stores h l k ∙ sets-eq (render h) l 0 (omega (arith, size_is h)) ∙ ap (λ n. render h ++ drop n l) (zero-add (length (render h)))

-- ---- the three answers of `encode`

size_of_code : (i : Instruction) → Valid i → size_of (parts_of i) ≡ length_of i
size_of_code i v = size_is (parts_of i) ∙ ap length (sym (code_is i v))

code_written : (i : Instruction) → Valid i → (l : List ℕ) → size_of (parts_of i) ≤ length l → write_of (parts_of i) l ≡ code_of i ++ drop (size_of (parts_of i)) l
code_written i v l h =
    wrote (parts_of i) l (subst Bytes (code_is i v) (code_bytes i v)) h ∙ ap₂ (λ c n. c ++ drop n l) (sym (code_is i v)) (sym (size_is (parts_of i)))

-- an answer, and what it leaves, as the room says
pub no_room : (h : Parts) (l : List ℕ) (n : ℕ) → n ≡ size_of h → length l < n → (Err (LentTooShort n) ≡ answer_of h l) × (l ≡ left_of h l)
no_room h l n e k =
    let s : length l < size_of h = omega arith in
    (rw (lt-ltb (length l) (size_of h) s) (ap (λ x. Err (LentTooShort x)) e), rw (lt-ltb (length l) (size_of h) s))

pub room : (h : Parts) (l m : List ℕ) (n : ℕ) → n ≡ size_of h → n ≤ length l → m ≡ write_of h l → (Ok n ≡ answer_of h l) × (m ≡ left_of h l)
room h l m n e k w =
    let s : size_of h ≤ length l = omega arith in
    (rw (le-ltb (length l) (size_of h) s) (ap Ok e), rw (le-ltb (length l) (size_of h) s) w)

-- for a test t that is the one of validity
module _ (i : Instruction) (t : Bool) (e : t ≡ valid_of i) where
  pub refuses : (l : List ℕ) → t ≡ false → Encodes i l l (Err NotInstruction)
  refuses l k = not_instruction (subst (λ s. Says s (Valid i)) (sym e ∙ k) (says_valid i)) refl

  pub answers : (l m : List ℕ) (h : Parts) (r : Result ℕ Refusal) → t ≡ true → h ≡ parts_of i → (r ≡ answer_of h l) × (m ≡ left_of h l) → Encodes i l m r
  answers l m h r k p a =
      subst (λ x. Encodes i l x r) (sym (a.1 ∙ ap (λ x. left_of x l) p))
      (subst (λ x. Encodes i l (left_of (parts_of i) l) x) (sym (a.0 ∙ ap (λ x. answer_of x l) p)) (go (ltb (length l) (size_of (parts_of i))) refl))
    where
      v : Valid i
      v = subst (λ s. Says s (Valid i)) (sym e ∙ k) (says_valid i)

      go : (b : Bool) → ltb (length l) (size_of (parts_of i)) ≡ b
          → Encodes i l (pick b l (write_of (parts_of i) l)) (pick b (Err (LentTooShort (size_of (parts_of i)))) (Ok (size_of (parts_of i))))
      go true z = too_short v (size_of_code i v) (ltb-true (length l) (size_of (parts_of i)) z) refl
      go false z =
          let s : size_of (parts_of i) ≤ length l = ltb-false (length l) (size_of (parts_of i)) z in
          written v (size_of_code i v) s (code_written i v l s)
