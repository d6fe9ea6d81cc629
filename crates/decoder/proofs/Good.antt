-- What the plan of a word makes is an instruction, and its code is those bytes: a tree of the tests in the order of the mirror.
use Rattle.std.specs.Prelude.{Option, Some, None}
use Prim.Native.Nat.{ℕ, suc, zero-le, ◌+◌, ◌-◌, ◌*◌, ◌/◌, ◌%◌, ◌≤◌, ◌<◌}
use mathlib.Core.Path.{◌≡◌, refl, sym, ap, ap₂, ◌∙◌, subst}
use mathlib.Core.Bool.{Bool, true, false}
use mathlib.Core.List.{List, [], ◌∷◌, ◌++◌}
use native.Mathlib.Omega.{arith}
use native.Mathlib.Nat.{div-add-mod'}
use lib.Dec.{ltb, eqb}
use borrow.Author.Tests.{eqb-true, ltb-true, ltb-false, eqb-false}
use Rattle.decoder.specs.Names.{Width, Byte, Word, Long, Op, Add, Sub, Cmp, Mov, Or, Xor, And, Reg, Way, Up, Down, One, Two, Four, Turn, Shll}
use Rattle.decoder.specs.Names.{Shlr, Rotxl, Rotxr, Shal, Shar, Rotl, Rotr, Not, Neg, Extu, Exts, Half, Eight, Sixteen, Unsigned, Signed, Dir, Load, Store, Place, At, Step, Disp, Abs16}
use Rattle.decoder.specs.Names.{Spot, InPart, AtEr, AtAbs}
use Rattle.decoder.specs.Names.{Abs24, ByReg, Instruction, Alu, IncDec, AddsSubs, Shift, Unary, Multiply, Divide, Move, Jmp, Jsr, Rest, Plan, Whole, Lacks}
use Rattle.decoder.specs.Names.{Mode, Plain, Stepping, Displaced, Absolute, Tail, Bits16, Bits24, Bits32}
use Rattle.codes.specs.Code.{◌·◌, be16, be24, way_digit, digit013, digit89_b, spot_code, first_digit, next_digit, dir_digit, code_of}
use Rattle.products.specs.Products.{factor_width, product_width}
use Rattle.codes.specs.Valid.{Digit, HasReg, HasImm, HasSpot, HasPlace, Valid}
use Rattle.decoder.specs.MirrorDecode.{tail_of_rest, fill_of}
use Rattle.decoder.specs.MirrorWords.{pick, exactly, below, is_ezero, e_zero, held, reg_reg, long_reg, inc_dec_of, shift_of, unary_of, row0, row1, bcc_digit, row5, memory_of, reads_of, writes_of, reads_part, writes_part, row6, first_op}
use Rattle.decoder.specs.MirrorWords.{next_op, row7, plan_of, long_memory, long_logic, after00, after_c0, after_d0, after_f0, after01, named_spot, bit_word, memory_bit, after_of}

-- ---- a plan is good after the bytes pre and for the word a b: what it makes is an instruction, and its code is those bytes

abbrev pub Codes : List ℕ → ℕ → ℕ → Instruction → List ℕ → Type 0
Codes pre a b i t = Valid i × (code_of i ≡ pre ++ (a ∷ b ∷ t))

abbrev pub Good2 : List ℕ → ℕ → ℕ → Rest → Type 0
Good2 pre a b q = (x y : ℕ) → x < 256 → y < 256 → Codes pre a b (fill_of q (x * 256 + y)) (x ∷ y ∷ [])

abbrev pub Good3 : List ℕ → ℕ → ℕ → Rest → Type 0
Good3 pre a b q =
    (y z w : ℕ) → y < 256 → z < 256 → w < 256 → Codes pre a b (fill_of q (0 * 16777216 + y * 65536 + z * 256 + w)) (0 ∷ y ∷ z ∷ w ∷ [])

abbrev pub Good4 : List ℕ → ℕ → ℕ → Rest → Type 0
Good4 pre a b q =
    (x y z w : ℕ) → x < 256 → y < 256 → z < 256 → w < 256 → Codes pre a b (fill_of q (x * 16777216 + y * 65536 + z * 256 + w)) (x ∷ y ∷ z ∷ w ∷ [])

abbrev pub GoodTail : Tail → List ℕ → ℕ → ℕ → Rest → Type 0
GoodTail Bits16 pre a b q = Good2 pre a b q
GoodTail Bits24 pre a b q = Good3 pre a b q
GoodTail Bits32 pre a b q = Good4 pre a b q

abbrev pub Good : List ℕ → ℕ → ℕ → Option Plan → Type 0
Good pre a b (Some (Whole i)) = Codes pre a b i []
Good pre a b (Some (Lacks q)) = GoodTail (tail_of_rest q) pre a b q
Good pre a b None = Unit {0}

-- ---- a test splits the proof

pub if≡ : {A : Type 0} (P : A → Type 0) (x k : ℕ) {u v : A} → (x ≡ k → P u) → ((x ≡ k → ⊥) → P v) → P (pick (eqb x k) u v)
if≡ P x k {u} {v} f g = go (eqb x k) refl
  where
    go : (t : Bool) → eqb x k ≡ t → P (pick t u v)
    go true e = f (eqb-true x k e)
    go false e = g (eqb-false x k e)

if< : {A : Type 0} (P : A → Type 0) (x k : ℕ) {u v : A} → (x < k → P u) → (k ≤ x → P v) → P (pick (ltb x k) u v)
if< P x k {u} {v} f g = go (ltb x k) refl
  where
    go : (t : Bool) → ltb x k ≡ t → P (pick t u v)
    go true e = f (ltb-true x k e)
    go false e = g (ltb-false x k e)

pub if_e_zero : (P : Bool → Type 0) (b : ℕ) → (b % 16 ≡ 0 → b / 16 < 8 → P true) → P false → P (is_ezero b)
if_e_zero P b f g = if≡ P (b % 16) 0 (λ z. go (ltb (b / 16) 8) refl z) (λ n. g)
  where
    go : (t : Bool) → ltb (b / 16) 8 ≡ t → b % 16 ≡ 0 → P t
    go true e z = f z (ltb-true (b / 16) 8 e)
    go false e z = g

two≡ : {a b c d : ℕ} → a ≡ c → b ≡ d → a ∷ b ∷ [] ≡ c ∷ d ∷ []
two≡ p q = ap₂ (λ x y. x ∷ y ∷ []) p q

pub four≡ : (pre : List ℕ) {a b x y a' b' x' y' : ℕ} → a ≡ a' → b ≡ b' → x ≡ x' → y ≡ y' → pre ++ (a ∷ b ∷ x ∷ y ∷ []) ≡ pre ++ (a' ∷ b' ∷ x' ∷ y' ∷ [])
four≡ pre p q r t = λ i. pre ++ (p i ∷ q i ∷ r i ∷ t i ∷ [])

six≡ : (pre : List ℕ) {a b x y z a' b' x' y' z' : ℕ} → a ≡ a' → b ≡ b' → x ≡ x' → y ≡ y' → z ≡ z'
    → pre ++ (a ∷ b ∷ 0 ∷ x ∷ y ∷ z ∷ []) ≡ pre ++ (a' ∷ b' ∷ 0 ∷ x' ∷ y' ∷ z' ∷ [])
six≡ pre p q r s t = λ i. pre ++ (p i ∷ q i ∷ 0 ∷ r i ∷ s i ∷ t i ∷ [])

-- ---- the parts

-- MULXU to DIVXS, after pre: rs then rd, or rs then e
product_good : (pre : List ℕ) (a b : ℕ) → b < 256 → (h : Half) (make : ℕ → ℕ → Instruction)
    → ((s d : ℕ) → Digit (factor_width h) s → Digit (product_width h) d → Valid (make s d)) → ((s d : ℕ) → code_of (make s d) ≡ pre ++ (a ∷ s · d ∷ []))
    → Good pre a b (held (product_width h) (b % 16) (Some (Whole (make (b / 16) (b % 16)))))
product_good pre a b hb Eight make v f = (v (b / 16) (b % 16) (omega arith) (omega arith), f (b / 16) (b % 16) ∙ ap (λ x. pre ++ (a ∷ x ∷ [])) (omega arith))
product_good pre a b hb Sixteen make v f =
    if< (Good pre a b) (b % 16) 8
    (λ k. (v (b / 16) (b % 16) (omega arith) k, f (b / 16) (b % 16) ∙ ap (λ x. pre ++ (a ∷ x ∷ [])) (omega arith)))
    (λ k. tt)

-- a bit instruction after pre, its bit in `spot`
module _ (pre : List ℕ) (c d : ℕ) (hd : d < 256) (spot : Spot) (hs : HasSpot spot) where
  -- its word, by the bit's number in the code, with 8 added, and in a byte register
  module _ (lead : ℕ) (f : (byte n : ℕ) → spot_code lead spot byte n ≡ pre ++ (byte ∷ n · (d % 16) ∷ [])) (byte : ℕ) (h : c ≡ byte) where
    word_is : (n : ℕ) → n · (d % 16) ≡ d → spot_code lead spot byte n ≡ pre ++ (c ∷ d ∷ [])
    word_is n k = f byte n ∙ ap₂ (λ x y. pre ++ (x ∷ y ∷ [])) (sym h) k

    low_word : d < 128 → ((d / 16 < 8) × HasSpot spot) × (spot_code lead spot byte (0 + d / 16) ≡ pre ++ (c ∷ d ∷ []))
    low_word k = ((omega arith, hs), word_is (0 + d / 16) (omega arith))

    high_word : 128 ≤ d → ((d / 16 - 8 < 8) × HasSpot spot) × (spot_code lead spot byte (8 + (d / 16 - 8)) ≡ pre ++ (c ∷ d ∷ []))
    high_word k = ((omega arith, hs), word_is (8 + (d / 16 - 8)) (omega arith))

    part_word : ((Unit {0} × (d / 16 < 16)) × HasSpot spot) × (spot_code lead spot byte (d / 16) ≡ pre ++ (c ∷ d ∷ []))
    part_word = (((tt, omega arith), hs), word_is (d / 16) (omega arith))

  reads_good : ((byte n : ℕ) → spot_code 0x7C spot byte n ≡ pre ++ (byte ∷ n · (d % 16) ∷ [])) → Good pre c d (reads_of c d spot)
  reads_good f =
      if≡ (Good pre c d) c 0x63 (part_word 0x7C f 0x63) λ n63.
      if≡ (Good pre c d) c 0x73 (λ h. if< (Good pre c d) d 128 (low_word 0x7C f 0x73 h) (λ k. tt)) λ n73.
      if≡ (Good pre c d) c 0x74 (λ h. if< (Good pre c d) d 128 (low_word 0x7C f 0x74 h) (high_word 0x7C f 0x74 h)) λ n74.
      if≡ (Good pre c d) c 0x75 (λ h. if< (Good pre c d) d 128 (low_word 0x7C f 0x75 h) (high_word 0x7C f 0x75 h)) λ n75.
      if≡ (Good pre c d) c 0x76 (λ h. if< (Good pre c d) d 128 (low_word 0x7C f 0x76 h) (high_word 0x7C f 0x76 h)) λ n76.
      if≡ (Good pre c d) c 0x77 (λ h. if< (Good pre c d) d 128 (low_word 0x7C f 0x77 h) (high_word 0x7C f 0x77 h)) λ n77. tt

  writes_good : ((byte n : ℕ) → spot_code 0x7D spot byte n ≡ pre ++ (byte ∷ n · (d % 16) ∷ [])) → Good pre c d (writes_of c d spot)
  writes_good f =
      if≡ (Good pre c d) c 0x60 (part_word 0x7D f 0x60) λ n60.
      if≡ (Good pre c d) c 0x61 (part_word 0x7D f 0x61) λ n61.
      if≡ (Good pre c d) c 0x62 (part_word 0x7D f 0x62) λ n62.
      if≡ (Good pre c d) c 0x67 (λ h. if< (Good pre c d) d 128 (low_word 0x7D f 0x67 h) (high_word 0x7D f 0x67 h)) λ n67.
      if≡ (Good pre c d) c 0x70 (λ h. if< (Good pre c d) d 128 (low_word 0x7D f 0x70 h) (λ k. tt)) λ n70.
      if≡ (Good pre c d) c 0x71 (λ h. if< (Good pre c d) d 128 (low_word 0x7D f 0x71 h) (λ k. tt)) λ n71.
      if≡ (Good pre c d) c 0x72 (λ h. if< (Good pre c d) d 128 (low_word 0x7D f 0x72 h) (λ k. tt)) λ n72. tt

module _ (a b : ℕ) (hb : b < 256) where
  short_good : (d : ℕ) (i : Instruction) → (d < 8 → Codes [] a b i []) → Good [] a b (below d 8 (Some (Whole i)))
  short_good d i f = if< (Good [] a b) d 8 f (λ h. tt)

  -- e0
  e_zero_good : (make : ℕ → Instruction) → ((e : ℕ) → e < 8 → Valid (make e)) → ((e : ℕ) → code_of (make e) ≡ a ∷ e · 0 ∷ [])
      → Good [] a b (e_zero b (Some (Whole (make (b / 16)))))
  e_zero_good make v f =
      if_e_zero (λ is. Good [] a b (pick is (Some (Whole (make (b / 16)))) None)) b
      (λ z e. (v (b / 16) e, f (b / 16) ∙ two≡ refl (omega arith))) tt

  inc_decs_good : (way : Way) → way_digit way · 0xB ≡ a → Good [] a b (inc_dec_of way b)
  inc_decs_good way e =
      if≡ (Good [] a b) (b / 16) 0 (λ h. short_good (b % 16) (AddsSubs way One (b % 16)) (λ k. (omega arith, two≡ e (omega arith)))) λ n0.
      if≡ (Good [] a b) (b / 16) 8 (λ h. short_good (b % 16) (AddsSubs way Two (b % 16)) (λ k. (omega arith, two≡ e (omega arith)))) λ n8.
      if≡ (Good [] a b) (b / 16) 9 (λ h. short_good (b % 16) (AddsSubs way Four (b % 16)) (λ k. (omega arith, two≡ e (omega arith)))) λ n9.
      if≡ (Good [] a b) (b / 16) 5 (λ h. (omega arith, two≡ e (omega arith))) λ n5.
      if≡ (Good [] a b) (b / 16) 13 (λ h. (omega arith, two≡ e (omega arith))) λ n13.
      if≡ (Good [] a b) (b / 16) 7 (λ h. short_good (b % 16) (IncDec way Long One (b % 16)) (λ k. (omega arith, two≡ e (omega arith)))) λ n7.
      if≡ (Good [] a b) (b / 16) 15 (λ h. short_good (b % 16) (IncDec way Long Two (b % 16)) (λ k. (omega arith, two≡ e (omega arith)))) λ n15. tt

  shifts_good : (t u : Turn) → ((w : Width) (r : ℕ) → code_of (Shift t w r) ≡ a ∷ digit013 w · r ∷ []) → ((w : Width) (r : ℕ) → code_of (Shift u w r) ≡ a ∷ digit89_b w · r ∷ [])
      → Good [] a b (shift_of t u b)
  shifts_good t u f g =
      if≡ (Good [] a b) (b / 16) 0 (λ h. (omega arith, f Byte (b % 16) ∙ two≡ refl (omega arith))) λ n0.
      if≡ (Good [] a b) (b / 16) 1 (λ h. (omega arith, f Word (b % 16) ∙ two≡ refl (omega arith))) λ n1.
      if≡ (Good [] a b) (b / 16) 3 (λ h. short_good (b % 16) (Shift t Long (b % 16)) (λ k. (k, f Long (b % 16) ∙ two≡ refl (omega arith)))) λ n3.
      if≡ (Good [] a b) (b / 16) 8 (λ h. (omega arith, g Byte (b % 16) ∙ two≡ refl (omega arith))) λ n8.
      if≡ (Good [] a b) (b / 16) 9 (λ h. (omega arith, g Word (b % 16) ∙ two≡ refl (omega arith))) λ n9.
      if≡ (Good [] a b) (b / 16) 11 (λ h. short_good (b % 16) (Shift u Long (b % 16)) (λ k. (k, g Long (b % 16) ∙ two≡ refl (omega arith)))) λ n11. tt

  unaries_good : 0x17 ≡ a → Good [] a b (unary_of b)
  unaries_good e =
      if≡ (Good [] a b) (b / 16) 0 (λ h. (omega arith, two≡ e (omega arith))) λ n0.
      if≡ (Good [] a b) (b / 16) 1 (λ h. (omega arith, two≡ e (omega arith))) λ n1.
      if≡ (Good [] a b) (b / 16) 3 (λ h. short_good (b % 16) (Unary Not Long (b % 16)) (λ k. (omega arith, two≡ e (omega arith)))) λ n3.
      if≡ (Good [] a b) (b / 16) 8 (λ h. (omega arith, two≡ e (omega arith))) λ n8.
      if≡ (Good [] a b) (b / 16) 9 (λ h. (omega arith, two≡ e (omega arith))) λ n9.
      if≡ (Good [] a b) (b / 16) 11 (λ h. short_good (b % 16) (Unary Neg Long (b % 16)) (λ k. (omega arith, two≡ e (omega arith)))) λ n11.
      if≡ (Good [] a b) (b / 16) 5 (λ h. (omega arith, two≡ e (omega arith))) λ n5.
      if≡ (Good [] a b) (b / 16) 7 (λ h. short_good (b % 16) (Unary Extu Long (b % 16)) (λ k. (omega arith, two≡ e (omega arith)))) λ n7.
      if≡ (Good [] a b) (b / 16) 13 (λ h. (omega arith, two≡ e (omega arith))) λ n13.
      if≡ (Good [] a b) (b / 16) 15 (λ h. short_good (b % 16) (Unary Exts Long (b % 16)) (λ k. (omega arith, two≡ e (omega arith)))) λ n15. tt

  -- (8+e)e
  long_good : (op : Op) → HasReg op Long → ((s d : ℕ) → code_of (Alu op Long (Reg s) d) ≡ a ∷ (8 + s) · d ∷ []) → Good [] a b (long_reg op b)
  long_good op has f =
      if< (Good [] a b) b 128 (λ h. tt) λ h.
      short_good (b % 16) (Alu op Long (Reg (b / 16 - 8)) (b % 16))
      (λ k. ((has, omega arith, k), f (b / 16 - 8) (b % 16) ∙ two≡ refl (omega arith)))

  row0_good : a / 16 ≡ 0 → Good [] a b (row0 (a % 16) b)
  row0_good z =
      if≡ (Good [] a b) (a % 16) 0 (λ h. if≡ (Good [] a b) b 0 (λ k. (tt, two≡ (omega arith) (omega arith))) (λ k. tt)) λ n0.
      if≡ (Good [] a b) (a % 16) 2 (λ h. if< (Good [] a b) b 16 (λ k. (k, two≡ (omega arith) (omega arith))) (λ k. tt)) λ n2.
      if≡ (Good [] a b) (a % 16) 3 (λ h. if< (Good [] a b) b 16 (λ k. (k, two≡ (omega arith) (omega arith))) (λ k. tt)) λ n3.
      if≡ (Good [] a b) (a % 16) 4 (λ h. (hb, two≡ (omega arith) refl)) λ n4.
      if≡ (Good [] a b) (a % 16) 5 (λ h. (hb, two≡ (omega arith) refl)) λ n5.
      if≡ (Good [] a b) (a % 16) 6 (λ h. (hb, two≡ (omega arith) refl)) λ n6.
      if≡ (Good [] a b) (a % 16) 7 (λ h. (hb, two≡ (omega arith) refl)) λ n7.
      if≡ (Good [] a b) (a % 16) 8 (λ h. (omega arith, two≡ (omega arith) (omega arith))) λ n8.
      if≡ (Good [] a b) (a % 16) 9 (λ h. (omega arith, two≡ (omega arith) (omega arith))) λ n9.
      if≡ (Good [] a b) (a % 16) 10
      (λ h. if< (Good [] a b) b 16 (λ k. (omega arith, two≡ (omega arith) (omega arith))) (λ k. long_good Add tt (λ s d. two≡ (omega arith) refl))) λ n10.
      if≡ (Good [] a b) (a % 16) 11 (λ h. inc_decs_good Up (omega arith)) λ n11.
      if≡ (Good [] a b) (a % 16) 12 (λ h. (omega arith, two≡ (omega arith) (omega arith))) λ n12.
      if≡ (Good [] a b) (a % 16) 13 (λ h. (omega arith, two≡ (omega arith) (omega arith))) λ n13.
      if≡ (Good [] a b) (a % 16) 14 (λ h. (omega arith, two≡ (omega arith) (omega arith))) λ n14.
      if≡ (Good [] a b) (a % 16) 15
      (λ h. if< (Good [] a b) b 16 (λ k. (k, two≡ (omega arith) (omega arith))) (λ k. long_good Mov tt (λ s d. two≡ (omega arith) refl))) λ n15. tt

  row1_good : a / 16 ≡ 1 → Good [] a b (row1 (a % 16) b)
  row1_good z =
      if≡ (Good [] a b) (a % 16) 0 (λ h. shifts_good Shll Shal (λ w r. two≡ (omega arith) refl) (λ w r. two≡ (omega arith) refl)) λ n0.
      if≡ (Good [] a b) (a % 16) 1 (λ h. shifts_good Shlr Shar (λ w r. two≡ (omega arith) refl) (λ w r. two≡ (omega arith) refl)) λ n1.
      if≡ (Good [] a b) (a % 16) 2 (λ h. shifts_good Rotxl Rotl (λ w r. two≡ (omega arith) refl) (λ w r. two≡ (omega arith) refl)) λ n2.
      if≡ (Good [] a b) (a % 16) 3 (λ h. shifts_good Rotxr Rotr (λ w r. two≡ (omega arith) refl) (λ w r. two≡ (omega arith) refl)) λ n3.
      if≡ (Good [] a b) (a % 16) 4 (λ h. (omega arith, two≡ (omega arith) (omega arith))) λ n4.
      if≡ (Good [] a b) (a % 16) 5 (λ h. (omega arith, two≡ (omega arith) (omega arith))) λ n5.
      if≡ (Good [] a b) (a % 16) 6 (λ h. (omega arith, two≡ (omega arith) (omega arith))) λ n6.
      if≡ (Good [] a b) (a % 16) 7 (λ h. unaries_good (omega arith)) λ n7.
      if≡ (Good [] a b) (a % 16) 8 (λ h. (omega arith, two≡ (omega arith) (omega arith))) λ n8.
      if≡ (Good [] a b) (a % 16) 9 (λ h. (omega arith, two≡ (omega arith) (omega arith))) λ n9.
      if≡ (Good [] a b) (a % 16) 10
      (λ h. if< (Good [] a b) b 16 (λ k. (omega arith, two≡ (omega arith) (omega arith))) (λ k. long_good Sub tt (λ s d. two≡ (omega arith) refl))) λ n10.
      if≡ (Good [] a b) (a % 16) 11 (λ h. inc_decs_good Down (omega arith)) λ n11.
      if≡ (Good [] a b) (a % 16) 12 (λ h. (omega arith, two≡ (omega arith) (omega arith))) λ n12.
      if≡ (Good [] a b) (a % 16) 13 (λ h. (omega arith, two≡ (omega arith) (omega arith))) λ n13.
      if≡ (Good [] a b) (a % 16) 14 (λ h. (omega arith, two≡ (omega arith) (omega arith))) λ n14.
      if≡ (Good [] a b) (a % 16) 15
      (λ h. if< (Good [] a b) b 16 (λ k. (k, two≡ (omega arith) (omega arith))) (λ k. long_good Cmp tt (λ s d. two≡ (omega arith) refl))) λ n15. tt

  row5_good : a / 16 ≡ 5 → Good [] a b (row5 (a % 16) b)
  row5_good z =
      if≡ (Good [] a b) (a % 16) 0 (λ h. product_good [] a b hb Eight (Multiply Unsigned Eight) (λ s d v w. (v, w)) (λ s d. two≡ (omega arith) refl)) λ n0.
      if≡ (Good [] a b) (a % 16) 1 (λ h. product_good [] a b hb Eight (Divide Unsigned Eight) (λ s d v w. (v, w)) (λ s d. two≡ (omega arith) refl)) λ n1.
      if≡ (Good [] a b) (a % 16) 2 (λ h. product_good [] a b hb Sixteen (Multiply Unsigned Sixteen) (λ s d v w. (v, w)) (λ s d. two≡ (omega arith) refl)) λ n2.
      if≡ (Good [] a b) (a % 16) 3 (λ h. product_good [] a b hb Sixteen (Divide Unsigned Sixteen) (λ s d v w. (v, w)) (λ s d. two≡ (omega arith) refl)) λ n3.
      if≡ (Good [] a b) (a % 16) 4 (λ h. if≡ (Good [] a b) b 112 (λ k. (tt, two≡ (omega arith) (omega arith))) (λ k. tt)) λ n4.
      if≡ (Good [] a b) (a % 16) 5 (λ h. (hb, two≡ (omega arith) refl)) λ n5.
      if≡ (Good [] a b) (a % 16) 8 (λ h. if≡ (Good [] a b) (bcc_digit b) 0 (λ k x y hx hy. (omega arith, four≡ [] (omega arith) (omega arith) (omega arith) (omega arith))) (λ k. tt)) λ n8.
      if≡ (Good [] a b) (a % 16) 9 (λ h. e_zero_good (λ e. Jmp (ByReg e)) (λ e k. k) (λ e. two≡ (omega arith) refl)) λ n9.
      if≡ (Good [] a b) (a % 16) 10 (λ h x y hx hy. (omega arith, four≡ [] (omega arith) (omega arith) (omega arith) (omega arith))) λ n10.
      if≡ (Good [] a b) (a % 16) 11 (λ h. (hb, two≡ (omega arith) refl)) λ n11.
      if≡ (Good [] a b) (a % 16) 12 (λ h. if≡ (Good [] a b) b 0 (λ k x y hx hy. (omega arith, four≡ [] (omega arith) (omega arith) (omega arith) (omega arith))) (λ k. tt)) λ n12.
      if≡ (Good [] a b) (a % 16) 13 (λ h. e_zero_good (λ e. Jsr (ByReg e)) (λ e k. k) (λ e. two≡ (omega arith) refl)) λ n13.
      if≡ (Good [] a b) (a % 16) 14 (λ h x y hx hy. (omega arith, four≡ [] (omega arith) (omega arith) (omega arith) (omega arith))) λ n14.
      if≡ (Good [] a b) (a % 16) 15 (λ h. (hb, two≡ (omega arith) refl)) λ n15. tt

-- ---- MOV with memory, after pre

module _ (pre : List ℕ) (w : Width) (a b : ℕ) (hb : b < 256) (hd : Digit w (b % 16)) where
  -- @ER, and @ER+ with @-ER
  at_good : (m : ℕ → Place) → ((e : ℕ) → e < 8 → HasPlace w (m e)) → ((dir : Dir) (e r : ℕ) → code_of (Move dir w (m e) r) ≡ pre ++ (a ∷ (dir_digit dir + e) · r ∷ []))
      → Good pre a b (pick (ltb b 128) (Some (Whole (Move Load w (m (b / 16)) (b % 16)))) (Some (Whole (Move Store w (m (b / 16 - 8)) (b % 16)))))
  at_good m p f =
      if< (Good pre a b) b 128
      (λ h. ((p (b / 16) (omega arith), hd), f Load (b / 16) (b % 16) ∙ ap (λ x. pre ++ (a ∷ x ∷ [])) (omega arith)))
      (λ h. ((p (b / 16 - 8) (omega arith), hd), f Store (b / 16 - 8) (b % 16) ∙ ap (λ x. pre ++ (a ∷ x ∷ [])) (omega arith)))

  disp_good : ((dir : Dir) (e d r : ℕ) → code_of (Move dir w (Disp e d) r) ≡ pre ++ (a ∷ (dir_digit dir + e) · r ∷ be16 d)) → Good pre a b (memory_of w Displaced b)
  disp_good f =
      if< (Good pre a b) b 128
      (λ h x y hx hy. (
        ((omega arith, omega arith), hd),
        f Load (b / 16) ((x * 256 + y) % 65536) (b % 16) ∙ four≡ pre refl (omega arith) (omega arith) (omega arith),
      ))
      (λ h x y hx hy. (
        ((omega arith, omega arith), hd),
        f Store (b / 16 - 8) ((x * 256 + y) % 65536) (b % 16) ∙ four≡ pre refl (omega arith) (omega arith) (omega arith),
      ))

  abs_good : ((dir : Dir) (v r : ℕ) → code_of (Move dir w (Abs16 v) r) ≡ pre ++ (a ∷ (dir_digit dir + 0) · r ∷ be16 v))
      → ((dir : Dir) (v r : ℕ) → code_of (Move dir w (Abs24 v) r) ≡ pre ++ (a ∷ (dir_digit dir + 2) · r ∷ 0 ∷ be24 v)) → Good pre a b (memory_of w Absolute b)
  abs_good f g =
      if< (Good pre a b) b 128
      (λ h. if≡ (Good pre a b) (b / 16) 0
      (λ k x y hx hy. ((omega arith, hd), f Load ((x * 256 + y) % 65536) (b % 16) ∙ four≡ pre refl (omega arith) (omega arith) (omega arith))) λ n0.
      if≡ (Good pre a b) (b / 16) 2
      (λ k y z u hy hz hu. ((omega arith, hd), g Load (0 * 16777216 + y * 65536 + z * 256 + u) (b % 16) ∙ six≡ pre refl (omega arith) (omega arith) (omega arith) (omega arith))) λ n2. tt)
      (λ h. if≡ (Good pre a b) (b / 16 - 8) 0
      (λ k x y hx hy. ((omega arith, hd), f Store ((x * 256 + y) % 65536) (b % 16) ∙ four≡ pre refl (omega arith) (omega arith) (omega arith))) λ n0.
      if≡ (Good pre a b) (b / 16 - 8) 2
      (λ k y z u hy hz hu. ((omega arith, hd), g Store (0 * 16777216 + y * 65536 + z * 256 + u) (b % 16) ∙ six≡ pre refl (omega arith) (omega arith) (omega arith) (omega arith))) λ n2. tt)

-- ---- the digit of an immediate

-- past one more (`omega` takes at most six `≢`)
past : {x : ℕ} (k : ℕ) → k ≤ x → (x ≡ k → ⊥) → suc k ≤ x
past k h n = omega arith

only : {x : ℕ} (k : ℕ) → k ≤ x → x < suc k → k ≡ x
only k h l = omega arith

next_op_lem : (h : ℕ) → h < 7 → HasImm (next_op h) Word × HasImm (next_op h) Long × (next_digit (next_op h) ≡ h)
next_op_lem h k =
    if≡ P h 0 (λ e. (tt, tt, sym e)) λ n0.
    if≡ P h 1 (λ e. (tt, tt, sym e)) λ n1.
    if≡ P h 2 (λ e. (tt, tt, sym e)) λ n2.
    if≡ P h 3 (λ e. (tt, tt, sym e)) λ n3.
    if≡ P h 4 (λ e. (tt, tt, sym e)) λ n4.
    if≡ P h 5 (λ e. (tt, tt, sym e)) λ n5. (tt, tt, omega arith)
  where
    P : Op → Type 0
    P op = HasImm op Word × HasImm op Long × (next_digit op ≡ h)

first_op_lem : (h : ℕ) → 8 ≤ h → h < 16 → HasImm (first_op h) Byte × (first_digit (first_op h) ≡ h)
first_op_lem h l k =
    if≡ P h 8 (λ e. (tt, sym e)) λ n8.
    if≡ P h 9 (λ e. (tt, sym e)) λ n9.
    if≡ P h 10 (λ e. (tt, sym e)) λ n10.
    if≡ P h 11 (λ e. (tt, sym e)) λ n11.
    if≡ P h 12 (λ e. (tt, sym e)) λ n12.
    if≡ P h 13 (λ e. (tt, sym e)) λ n13.
    if≡ P h 14 (λ e. (tt, sym e)) λ n14. (tt, only 15 (past 14 (past 13 (past 12 (past 11 (past 10 (past 9 (past 8 l n8) n9) n10) n11) n12) n13) n14) k)
  where
    P : Op → Type 0
    P op = HasImm op Byte × (first_digit op ≡ h)

high : (a : ℕ) → a < 256 → a / 16 < 16
high a h = omega arith

low : (a : ℕ) → a % 16 < 16
low a = omega arith

-- ---- the first word

module _ (a b : ℕ) (hb : b < 256) where
  -- a bit in a byte register
  reads_part_lem : (k : ℕ) → k ≡ a → Good [] a b (reads_part k b)
  reads_part_lem k e = subst (λ x. Good [] x b (reads_part k b)) e (reads_good [] k b hb (InPart (b % 16)) (omega arith) (λ byte n. refl))

  writes_part_lem : (k : ℕ) → k ≡ a → Good [] a b (writes_part k b)
  writes_part_lem k e = subst (λ x. Good [] x b (writes_part k b)) e (writes_good [] k b hb (InPart (b % 16)) (omega arith) (λ byte n. refl))

  row6_good : a / 16 ≡ 6 → Good [] a b (row6 (a % 16) b)
  row6_good z =
      if≡ (Good [] a b) (a % 16) 0 (λ h. writes_part_lem 0x60 (omega arith)) λ n0.
      if≡ (Good [] a b) (a % 16) 1 (λ h. writes_part_lem 0x61 (omega arith)) λ n1.
      if≡ (Good [] a b) (a % 16) 2 (λ h. writes_part_lem 0x62 (omega arith)) λ n2.
      if≡ (Good [] a b) (a % 16) 3 (λ h. reads_part_lem 0x63 (omega arith)) λ n3.
      if≡ (Good [] a b) (a % 16) 4 (λ h. (omega arith, two≡ (omega arith) (omega arith))) λ n4.
      if≡ (Good [] a b) (a % 16) 5 (λ h. (omega arith, two≡ (omega arith) (omega arith))) λ n5.
      if≡ (Good [] a b) (a % 16) 6 (λ h. (omega arith, two≡ (omega arith) (omega arith))) λ n6.
      if≡ (Good [] a b) (a % 16) 7 (λ h. writes_part_lem 0x67 (omega arith)) λ n7.
      if≡ (Good [] a b) (a % 16) 8 (λ h. at_good [] Byte a b hb (omega arith) At (λ e k. k) (λ dir e r. two≡ (omega arith) refl)) λ n8.
      if≡ (Good [] a b) (a % 16) 9 (λ h. at_good [] Word a b hb (omega arith) At (λ e k. k) (λ dir e r. two≡ (omega arith) refl)) λ n9.
      if≡ (Good [] a b) (a % 16) 10
      (λ h. abs_good [] Byte a b hb (omega arith) (λ dir v r. four≡ [] (omega arith) refl refl refl) (λ dir v r. six≡ [] (omega arith) refl refl refl refl)) λ n10.
      if≡ (Good [] a b) (a % 16) 11
      (λ h. abs_good [] Word a b hb (omega arith) (λ dir v r. four≡ [] (omega arith) refl refl refl) (λ dir v r. six≡ [] (omega arith) refl refl refl refl)) λ n11.
      if≡ (Good [] a b) (a % 16) 12 (λ h. at_good [] Byte a b hb (omega arith) Step (λ e k. k) (λ dir e r. two≡ (omega arith) refl)) λ n12.
      if≡ (Good [] a b) (a % 16) 13 (λ h. at_good [] Word a b hb (omega arith) Step (λ e k. k) (λ dir e r. two≡ (omega arith) refl)) λ n13.
      if≡ (Good [] a b) (a % 16) 14 (λ h. disp_good [] Byte a b hb (omega arith) (λ dir e d r. four≡ [] (omega arith) refl refl refl)) λ n14.
      if≡ (Good [] a b) (a % 16) 15 (λ h. disp_good [] Word a b hb (omega arith) (λ dir e d r. four≡ [] (omega arith) refl refl refl)) λ n15. tt

  row7_good : a / 16 ≡ 7 → Good [] a b (row7 (a % 16) b)
  row7_good z =
      if≡ (Good [] a b) (a % 16) 0 (λ h. writes_part_lem 0x70 (omega arith)) λ n0.
      if≡ (Good [] a b) (a % 16) 1 (λ h. writes_part_lem 0x71 (omega arith)) λ n1.
      if≡ (Good [] a b) (a % 16) 2 (λ h. writes_part_lem 0x72 (omega arith)) λ n2.
      if≡ (Good [] a b) (a % 16) 3 (λ h. reads_part_lem 0x73 (omega arith)) λ n3.
      if≡ (Good [] a b) (a % 16) 4 (λ h. reads_part_lem 0x74 (omega arith)) λ n4.
      if≡ (Good [] a b) (a % 16) 5 (λ h. reads_part_lem 0x75 (omega arith)) λ n5.
      if≡ (Good [] a b) (a % 16) 6 (λ h. reads_part_lem 0x76 (omega arith)) λ n6.
      if≡ (Good [] a b) (a % 16) 7 (λ h. reads_part_lem 0x77 (omega arith)) λ n7.
      if≡ (Good [] a b) (a % 16) 9
      (λ k. if< (Good [] a b) b 0x70
      (λ h x y hx hy.
      let o = next_op_lem (b / 16) (omega arith) in (
        (o.0, omega arith, omega arith),
        four≡ [] (omega arith) (ap (λ d. d · (b % 16)) o.2 ∙ div-add-mod' b 16) (omega arith) (omega arith),
      ))
      (λ h. tt)) λ n9.
      if≡ (Good [] a b) (a % 16) 10
      (λ k. if< (Good [] a b) b 0x70
      (λ h. if< (Good [] a b) (b % 16) 8
      (λ m x y u v hx hy hu hv.
      let o = next_op_lem (b / 16) (omega arith) in (
        (o.1, omega arith, m),
        (λ i. 0x7A≡a k i ∷ (ap (λ d. d · (b % 16)) o.2 ∙ div-add-mod' b 16) i ∷ n32_0 x y u v hy hu hv i ∷ n32_1 x y u v hy hu hv i ∷ n32_2 x y u v hy hu hv i ∷ n32_3 x y u v hy hu hv i ∷ []),
      ))
      (λ m. tt))
      (λ h. tt)) λ n10. tt
    where
      0x7A≡a : a % 16 ≡ 10 → 0x7A ≡ a
      0x7A≡a k = omega arith

      n32_0 : (x y u v : ℕ) → y < 256 → u < 256 → v < 256 → (x * 16777216 + y * 65536 + u * 256 + v) / 16777216 ≡ x
      n32_0 x y u v hy hu hv = omega arith

      n32_1 : (x y u v : ℕ) → y < 256 → u < 256 → v < 256 → (x * 16777216 + y * 65536 + u * 256 + v) / 65536 % 256 ≡ y
      n32_1 x y u v hy hu hv = omega arith

      n32_2 : (x y u v : ℕ) → y < 256 → u < 256 → v < 256 → (x * 16777216 + y * 65536 + u * 256 + v) / 256 % 256 ≡ u
      n32_2 x y u v hy hu hv = omega arith

      n32_3 : (x y u v : ℕ) → y < 256 → u < 256 → v < 256 → (x * 16777216 + y * 65536 + u * 256 + v) % 256 ≡ v
      n32_3 x y u v hy hu hv = omega arith

  pub plan_good : a < 256 → Good [] a b (plan_of a b)
  plan_good ha =
      if≡ (Good [] a b) (a / 16) 0 (row0_good a b hb) λ n0.
      if≡ (Good [] a b) (a / 16) 1 (row1_good a b hb) λ n1.
      if≡ (Good [] a b) (a / 16) 2 (λ h. (((tt, hb), omega arith), two≡ (omega arith) refl)) λ n2.
      if≡ (Good [] a b) (a / 16) 3 (λ h. (((tt, hb), omega arith), two≡ (omega arith) refl)) λ n3.
      if≡ (Good [] a b) (a / 16) 4 (λ h. ((omega arith, hb), two≡ (omega arith) refl)) λ n4.
      if≡ (Good [] a b) (a / 16) 5 (row5_good a b hb) λ n5.
      if≡ (Good [] a b) (a / 16) 6 row6_good λ n6.
      if≡ (Good [] a b) (a / 16) 7 row7_good λ n7.
      let o = first_op_lem (a / 16) (past 7 (past 6 (past 5 (past 4 (past 3 (past 2 (past 1 (past 0 zero-le n0) n1) n2) n3) n4) n5) n6) n7) (high a ha) in
      ((o.0, hb, low a), two≡ (ap (λ d. d · (a % 16)) o.1 ∙ div-add-mod' a 16) refl)

-- ---- the second word

module _ (c d : ℕ) (hd : d < 256) where
  long_memory_lem : (mode : Mode) → (d % 16 < 8 → Good (1 ∷ 0 ∷ []) c d (memory_of Long mode d)) → Good (1 ∷ 0 ∷ []) c d (long_memory mode d)
  long_memory_lem mode f = if< (Good (1 ∷ 0 ∷ []) c d) (d % 16) 8 f (λ h. tt)

  after00_good : Good (1 ∷ 0 ∷ []) c d (after00 c d)
  after00_good =
      if≡ (Good (1 ∷ 0 ∷ []) c d) c 0x69
      (λ h. long_memory_lem Plain (λ k. at_good (1 ∷ 0 ∷ []) Long c d hd k At (λ e m. m) (λ dir e r. ap (λ x. 1 ∷ 0 ∷ x ∷ (dir_digit dir + e) · r ∷ []) (sym h)))) λ n69.
      if≡ (Good (1 ∷ 0 ∷ []) c d) c 0x6B
      (λ h. long_memory_lem Absolute (λ k. abs_good (1 ∷ 0 ∷ []) Long c d hd k (λ dir v r. four≡ (1 ∷ 0 ∷ []) (sym h) refl refl refl) (λ dir v r. six≡ (1 ∷ 0 ∷ []) (sym h) refl refl refl refl))) λ n6B.
      if≡ (Good (1 ∷ 0 ∷ []) c d) c 0x6D
      (λ h. long_memory_lem Stepping (λ k. at_good (1 ∷ 0 ∷ []) Long c d hd k Step (λ e m. m) (λ dir e r. ap (λ x. 1 ∷ 0 ∷ x ∷ (dir_digit dir + e) · r ∷ []) (sym h)))) λ n6D.
      if≡ (Good (1 ∷ 0 ∷ []) c d) c 0x6F
      (λ h. long_memory_lem Displaced (λ k. disp_good (1 ∷ 0 ∷ []) Long c d hd k (λ dir e v r. four≡ (1 ∷ 0 ∷ []) (sym h) refl refl refl))) λ n6F. tt

  long_logic_lem : (op : Op) → (d < 128 → d % 16 < 8 → Good (1 ∷ 0xF0 ∷ []) c d (reg_reg op Long d)) → Good (1 ∷ 0xF0 ∷ []) c d (long_logic op d)
  long_logic_lem op f = if< (Good (1 ∷ 0xF0 ∷ []) c d) d 128 (λ h. if< (Good (1 ∷ 0xF0 ∷ []) c d) (d % 16) 8 (λ k. f h k) (λ k. tt)) (λ h. tt)

  after_f0_good : Good (1 ∷ 0xF0 ∷ []) c d (after_f0 c d)
  after_f0_good =
      if≡ (Good (1 ∷ 0xF0 ∷ []) c d) c 0x64 (λ h. long_logic_lem Or (λ k m. (omega arith, four≡ [] refl refl (sym h) (omega arith)))) λ n64.
      if≡ (Good (1 ∷ 0xF0 ∷ []) c d) c 0x65 (λ h. long_logic_lem Xor (λ k m. (omega arith, four≡ [] refl refl (sym h) (omega arith)))) λ n65.
      if≡ (Good (1 ∷ 0xF0 ∷ []) c d) c 0x66 (λ h. long_logic_lem And (λ k m. (omega arith, four≡ [] refl refl (sym h) (omega arith)))) λ n66. tt

  after_c0_good : Good (1 ∷ 0xC0 ∷ []) c d (after_c0 c d)
  after_c0_good =
      if≡ (Good (1 ∷ 0xC0 ∷ []) c d) c 0x50
      (λ h. product_good (1 ∷ 0xC0 ∷ []) c d hd Eight (Multiply Signed Eight) (λ s e v w. (v, w)) (λ s e. four≡ [] refl refl (sym h) refl)) λ n50.
      if≡ (Good (1 ∷ 0xC0 ∷ []) c d) c 0x52
      (λ h. product_good (1 ∷ 0xC0 ∷ []) c d hd Sixteen (Multiply Signed Sixteen) (λ s e v w. (v, w)) (λ s e. four≡ [] refl refl (sym h) refl)) λ n52. tt

  after_d0_good : Good (1 ∷ 0xD0 ∷ []) c d (after_d0 c d)
  after_d0_good =
      if≡ (Good (1 ∷ 0xD0 ∷ []) c d) c 0x51
      (λ h. product_good (1 ∷ 0xD0 ∷ []) c d hd Eight (Divide Signed Eight) (λ s e v w. (v, w)) (λ s e. four≡ [] refl refl (sym h) refl)) λ n51.
      if≡ (Good (1 ∷ 0xD0 ∷ []) c d) c 0x53
      (λ h. product_good (1 ∷ 0xD0 ∷ []) c d hd Sixteen (Divide Signed Sixteen) (λ s e v w. (v, w)) (λ s e. four≡ [] refl refl (sym h) refl)) λ n53. tt

  after01_good : (b : ℕ) → Good (1 ∷ b ∷ []) c d (after01 b c d)
  after01_good b =
      if≡ (Good (1 ∷ b ∷ []) c d) b 0 (λ h. subst (λ x. Good (1 ∷ x ∷ []) c d (after00 c d)) (sym h) after00_good) λ n0.
      if≡ (Good (1 ∷ b ∷ []) c d) b 0xC0 (λ h. subst (λ x. Good (1 ∷ x ∷ []) c d (after_c0 c d)) (sym h) after_c0_good) λ nC0.
      if≡ (Good (1 ∷ b ∷ []) c d) b 0xD0 (λ h. subst (λ x. Good (1 ∷ x ∷ []) c d (after_d0 c d)) (sym h) after_d0_good) λ nD0.
      if≡ (Good (1 ∷ b ∷ []) c d) b 0xF0 (λ h. subst (λ x. Good (1 ∷ x ∷ []) c d (after_f0 c d)) (sym h) after_f0_good) λ nF0. tt

  module _ (a b : ℕ) (hb : b < 256) where
    -- 7C to 7F, and the byte in memory that they name with b
    reads_memory : (spot : Spot) → HasSpot spot → ((byte n : ℕ) → spot_code 0x7C spot byte n ≡ a ∷ b ∷ byte ∷ n · 0 ∷ [])
        → Good (a ∷ b ∷ []) c d (exactly (d % 16) 0 (reads_of c d spot))
    reads_memory spot hs f =
        if≡ (Good (a ∷ b ∷ []) c d) (d % 16) 0
        (λ k. reads_good (a ∷ b ∷ []) c d hd spot hs (λ byte n. f byte n ∙ ap (λ x. a ∷ b ∷ byte ∷ n · x ∷ []) (sym k))) (λ n. tt)

    writes_memory : (spot : Spot) → HasSpot spot → ((byte n : ℕ) → spot_code 0x7D spot byte n ≡ a ∷ b ∷ byte ∷ n · 0 ∷ [])
        → Good (a ∷ b ∷ []) c d (exactly (d % 16) 0 (writes_of c d spot))
    writes_memory spot hs f =
        if≡ (Good (a ∷ b ∷ []) c d) (d % 16) 0
        (λ k. writes_good (a ∷ b ∷ []) c d hd spot hs (λ byte n. f byte n ∙ ap (λ x. a ∷ b ∷ byte ∷ n · x ∷ []) (sym k))) (λ n. tt)

    memory_bit_good : Good (a ∷ b ∷ []) c d (memory_bit a b c d)
    memory_bit_good =
        if≡ P a 0x7C (λ h. if_e_zero P b (λ z e. behind 0x7C h (reads_memory (AtEr (b / 16)) e (λ byte n. four≡ [] (sym h) (omega arith) refl refl))) tt) λ n7C.
        if≡ P a 0x7D (λ h. if_e_zero P b (λ z e. behind 0x7D h (writes_memory (AtEr (b / 16)) e (λ byte n. four≡ [] (sym h) (omega arith) refl refl))) tt) λ n7D.
        if≡ P a 0x7E (λ h. behind 0x7E h (reads_memory (AtAbs b) hb (λ byte n. four≡ [] (sym h) refl refl refl))) λ n7E.
        if≡ P a 0x7F (λ h. behind 0x7F h (writes_memory (AtAbs b) hb (λ byte n. four≡ [] (sym h) refl refl refl))) λ n7F. tt
      where
        P : Bool → Type 0
        P named = Good (a ∷ b ∷ []) c d (pick named (exactly (d % 16) 0 (bit_word a c d (named_spot a b))) None)

        behind : (k : ℕ) → a ≡ k → Good (a ∷ b ∷ []) c d (exactly (d % 16) 0 (bit_word k c d (named_spot k b))) → P true
        behind k h g = subst (λ x. Good (a ∷ b ∷ []) c d (exactly (d % 16) 0 (bit_word x c d (named_spot x b)))) (sym h) g

    pub after_good : Good (a ∷ b ∷ []) c d (after_of a b c d)
    after_good =
        if≡ (Good (a ∷ b ∷ []) c d) a 0x01 (λ h. subst (λ x. Good (x ∷ b ∷ []) c d (after01 b c d)) (sym h) (after01_good b)) λ n01. memory_bit_good
