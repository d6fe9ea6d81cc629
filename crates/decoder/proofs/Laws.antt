-- Laws for callers, over the code list: the decoder is exact, its answer is the only one, and decoding and encoding undo each other.
use Rattle.std.specs.Prelude.{Option, Some, None, Result, Ok, Err}
use Prim.Native.Nat.{ℕ, ◌≤◌}
use mathlib.Core.Path.{◌≡◌, refl, sym, ap, ap₂, ◌∙◌, subst}
use mathlib.Core.Logic.{◌⊎◌, inl, inr}
use mathlib.Core.Bool.{Bool, true, false}
use mathlib.Core.List.{List, [], ◌∷◌, ◌++◌}
use native.Mathlib.Omega.{arith}
use lib.ListN.{length, get_or, take, drop, length-append}
use lib.Seq.{take_at}
use Rattle.decoder.specs.Names.{Instruction, Refusal, CutShort, Plan, Whole, Fault, Cut, Unlisted}
use Rattle.decoder.specs.MirrorWords.{plan_of}
use Rattle.decoder.specs.MirrorDecode.{finish_of, two_words, found_of, placed_of, decode_of}
use Rattle.left.specs.Left.{group_in, left_out}
use Rattle.left.specs.Unheld.{unheld_of}
use Rattle.codes.specs.Code.{code_of, length_of}
use Rattle.codes.specs.Valid.{Valid}
use Rattle.codes.specs.Exact.{Bytes, Begins, CutOf, Decodes, accepted, cut_short, unheld, Encodes, written}
use Rattle.codes.proofs.Laws.{Sized, code_sized}
use Rattle.decoder.proofs.Complete.{word_only, complete, cut}
use Rattle.decoder.proofs.Good.{if≡}
use Rattle.decoder.proofs.Sound.{Sound, sound}

-- two answers that differ
differ : {i : Instruction} {n : ℕ} (r : Result (Instruction × ℕ) Fault) → r ≡ Ok (i, n) → r ≡ Err Cut → ⊥
differ r p q = let z : ◌≡◌ {A = ℕ} 0 1 = cc in omega arith

differ_is : {i : Instruction} {n : ℕ} (r : Result (Instruction × ℕ) Fault) → r ≡ Ok (i, n) → r ≡ Err Unlisted → ⊥
differ_is r p q = let z : ◌≡◌ {A = ℕ} 0 1 = cc in omega arith

differ_cut : (r : Result (Instruction × ℕ) Fault) → r ≡ Err Cut → r ≡ Err Unlisted → ⊥
differ_cut r p q = let z : ◌≡◌ {A = ℕ} 0 1 = cc in omega arith

-- what the code list says is what the decoder finds
is_found : (i : Instruction) → Valid i → (s : List ℕ) → Begins (code_of i) s → found_of s ≡ Ok (i, length_of i)
is_found i v s b = ap found_of b.1 ∙ complete i v b.0

cut_found : (i : Instruction) → Valid i → (s : List ℕ) → CutOf s (code_of i) → found_of s ≡ Err Cut
cut_found i v s k = cut i v s k.0 k.1 k.2

-- ---- exactness

placed_exact : (place : ℕ) (s : List ℕ) (r : Result (Instruction × ℕ) Fault) → found_of s ≡ r → Sound s r → Decodes place s (placed_of place s r)
placed_exact place s (Ok (i, n)) e h = accepted h.0 h.1 h.2
placed_exact place s (Err Cut) e h = cut_short h.0 h.1 h.2
placed_exact place s (Err Unlisted) e h =
    unheld (λ i v. (λ b. differ_is (found_of s) (is_found i v s b) e, λ k. differ_cut (found_of s) (cut_found i v s k) e))

-- THE THEOREM: what the decoder computes is what the code list says.
pub exact : (place : ℕ) (s : List ℕ) → Bytes s → Decodes place s (decode_of place s)
exact place s h = placed_exact place s (found_of s) refl (sound s h)

-- ---- one answer

-- the set is prefix-free: the code at the start of the bytes is the only one
pub same_code : (i j : Instruction) → Valid i → Valid j → (s : List ℕ) → Begins (code_of i) s → Begins (code_of j) s → i ≡ j
same_code i j v w s p q = one (found_of s) (is_found i v s p) (is_found j w s q)
  where
    read : Result (Instruction × ℕ) Fault → Instruction
    read (Ok p) = p.0
    read (Err f) = i

    one : {m n : ℕ} (r : Result (Instruction × ℕ) Fault) → r ≡ Ok (i, m) → r ≡ Ok (j, n) → i ≡ j
    one r e f = ap read (sym e ∙ f)

-- and no code is a proper beginning of another
pub no_cut_code : (i j : Instruction) → Valid i → Valid j → (s : List ℕ) → Begins (code_of i) s → CutOf s (code_of j) → ⊥
no_cut_code i j v w s p q = differ (found_of s) (is_found i v s p) (cut_found j w s q)

pub decodes_one : {place : ℕ} {s : List ℕ} {r q : Result (Instruction × ℕ) Refusal} → Decodes place s r → Decodes place s q → r ≡ q
decodes_one {s = s} (accepted {i} v e b) (accepted {i = j} w f d) =
    let k : i ≡ j = same_code i j v w s b d in
    ap₂ (λ i n. Ok (i, n)) k (e ∙ ap length_of k ∙ sym f)
decodes_one {s = s} (accepted {i} v e b) (cut_short j w k) = absurd (no_cut_code i j v w s b k)
decodes_one (accepted {i} v e b) (unheld f) = absurd ((f i v).0 b)
decodes_one {s = s} (cut_short j w k) (accepted {i} v e b) = absurd (no_cut_code i j v w s b k)
decodes_one (cut_short i v k) (cut_short j w l) = refl
decodes_one (cut_short i v k) (unheld f) = absurd ((f i v).1 k)
decodes_one (unheld f) (accepted {i} v e b) = absurd ((f i v).0 b)
decodes_one (unheld f) (cut_short i v k) = absurd ((f i v).1 k)
decodes_one (unheld f) (unheld g) = refl

-- ---- what an answer says

pub record Read (s : List ℕ) (i : Instruction) (n : ℕ) : Type 0 where
  pub valid : Valid i
  pub length_is : n ≡ length_of i
  pub sized : Sized n
  pub inside : n ≤ length s
  pub bytes : take n s ≡ code_of i

pub accepted_read : {place : ℕ} {s : List ℕ} {i : Instruction} {n : ℕ} → Decodes place s (Ok (i, n)) → Read s i n
accepted_read {s = s} {i} {n} (accepted v e b) =
    record {
      valid = v;
      length_is = e;
      sized = subst Sized (sym e) (code_sized i v);
      inside = omega (arith, e, ap length b.1, length-append (code_of i) b.0);
      bytes = ap₂ take e b.1 ∙ take_at (code_of i) b.0 (length_of i) refl;
    }

-- of bytes that decode to an instruction: it is valid, its length is even, 2 to 8 and inside, and encoding it gives the bytes that were read
pub code_read : (place : ℕ) (s : List ℕ) (i : Instruction) (n : ℕ) → Bytes s → decode_of place s ≡ Ok (i, n) → Read s i n
code_read place s i n h e = accepted_read (subst (λ r. Decodes place s r) e (exact place s h))

-- a refusal is 4, or 15 or 3, with the place
pub refused_at : (place : ℕ) (s : List ℕ) (f : Refusal) → decode_of place s ≡ Err f → (f ≡ CutShort place) ⊎ (f ≡ unheld_of place (group_in left_out s))
refused_at place s f e = go (found_of s) e
  where
    go : (r : Result (Instruction × ℕ) Fault) → placed_of place s r ≡ Err f → (f ≡ CutShort place) ⊎ (f ≡ unheld_of place (group_in left_out s))
    go (Ok (i, n)) e = absurd (let z : ◌≡◌ {A = ℕ} 0 1 = cc in omega arith)
    go (Err Cut) e = inl (cc)
    go (Err Unlisted) e = inr (cc)

-- ---- a word that is a whole code is found

-- a byte that begins two words has no plan of one
planned_one : {i : Instruction} (a b : ℕ) → plan_of a b ≡ Some (Whole i) → two_words a ≡ false
planned_one {i} a b e =
    if≡ P a 0x01 (none 0x01 refl) λ n01.
    if≡ P a 0x7C (none 0x7C refl) λ n7C.
    if≡ P a 0x7D (none 0x7D refl) λ n7D.
    if≡ P a 0x7E (none 0x7E refl) λ n7E.
    if≡ P a 0x7F (none 0x7F refl) λ n7F. refl
  where
    P : Bool → Type 0
    P two = two ≡ false

    differ-plan : (p : Option Plan) → p ≡ Some (Whole i) → p ≡ None → ⊥
    differ-plan p x y = let z : ◌≡◌ {A = ℕ} 0 1 = cc in omega arith

    none : (k : ℕ) → plan_of k b ≡ None → a ≡ k → P true
    none k n h = absurd (differ-plan (plan_of a b) e (ap (λ x. plan_of x b) h ∙ n))

pub whole_word : (s : List ℕ) (i : Instruction) → 2 ≤ length s → plan_of (get_or s 0 0) (get_or s 1 0) ≡ Some (Whole i) → found_of s ≡ Ok (i, 2)
whole_word [] i h e = absurd (omega arith)
whole_word (a ∷ []) i h e = absurd (omega arith)
whole_word (a ∷ b ∷ t) i h e = word_only a b t (planned_one a b e) ∙ ap (λ p. finish_of p t 2) e

-- ---- the round trip

-- decoding a code gives its instruction and its length, whatever follows
pub decode_code : (place : ℕ) (i : Instruction) → Valid i → (rest : List ℕ) → decode_of place (code_of i ++ rest) ≡ Ok (i, length_of i)
decode_code place i v rest = ap (placed_of place (code_of i ++ rest)) (complete i v rest)

-- so decoding what was encoded gives it back
pub decode_encoded : (place : ℕ) {i : Instruction} {old new : List ℕ} {n : ℕ} → Encodes i old new (Ok n) → decode_of place new ≡ Ok (i, n)
decode_encoded place {i} {old} {n = n} (written v e h k) = ap (decode_of place) k ∙ decode_code place i v (drop n old) ∙ ap (λ n. Ok (i, n)) (sym e)

-- and encoding what was decoded writes the bytes that were read
pub encode_decoded : (place : ℕ) (s : List ℕ) (i : Instruction) (n : ℕ) → Bytes s → decode_of place s ≡ Ok (i, n)
    → {old new : List ℕ} {m : ℕ} → Encodes i old new (Ok m) → new ≡ take n s ++ drop n old
encode_decoded place s i n b d {old} (written v e h k) =
    let r = code_read place s i n b d in
    k ∙ ap₂ (λ c x. c ++ drop x old) (sym r.bytes) (e ∙ sym r.length_is)
