-- The shape of each code: its first byte starts a code, and the plan of its words with the bytes that follow makes its instruction.
use Rattle.std.specs.Prelude.{Option, Some, None}
use Prim.Native.Nat.{ℕ, ◌+◌, ◌-◌, ◌*◌, ◌/◌, ◌%◌, ◌≤◌, ◌<◌}
use mathlib.Core.Path.{◌≡◌, refl, ap, ap₂, ◌∙◌}
use mathlib.Core.Bool.{true, false}
use mathlib.Core.List.{List, [], ◌∷◌}
use native.Mathlib.Omega.{arith}
use native.Mathlib.Nat.{zero-add, div-add-mod', add-sub_cancel_left}
use lib.Dec.{ltb, eqb}
use lib.Arith.{digits_div, digits_mod}
use borrow.Author.Tests.{le-ltb, lt-ltb, eq-eqb, ne_eqb}
use Rattle.decoder.specs.Names.{Width, Byte, Word, Long, Op, Add, Sub, Cmp, Mov, Addx, Subx, Or, Xor, And, Reg, Imm, Way, Up, Down, By, One, Two}
use Rattle.decoder.specs.Names.{Four, Turn, Shll, Shlr, Rotxl, Rotxr, Shal, Shar, Rotl, Rotr, Single, Not, Neg, Extu, Exts, Half, Eight, Sixteen, Sign, Unsigned, Signed, Change, Orc, Xorc}
use Rattle.decoder.specs.Names.{Take, Btst, Bor, Bior, Bxor, Bixor, Band, Biand, Bld, Bild, Give, Bset, Bnot, Bclr, Bst, Bist, Index, Numbered, ByPart, Spot, InPart, AtEr, AtAbs, Takes, Gives}
use Rattle.decoder.specs.Names.{Andc, Ldc, Dir, Load, Store, Place, At, Step, Disp, Abs8, Abs16, Abs24, Reach, Near, Far, Target, ByReg, Direct}
use Rattle.decoder.specs.Names.{Vector, Instruction, Nop, Stc, LdcReg, Ccr, Alu, IncDec, AddsSubs, Decimal, Shift, Unary, Multiply, Divide, Move, Bcc, Jmp, Bsr}
use Rattle.decoder.specs.Names.{Jsr, Rts, Rest, Imm16, Imm32, Disp16, Aa16, Aa24, Bcc16, Bsr16, Jmp24, Jsr24, Plan, Whole, Lacks, Mode}
use Rattle.decoder.specs.Names.{Plain, Stepping, Displaced, Absolute, Bits16, Bits24, Bits32, Cut, Unlisted}
use Rattle.codes.specs.Code.{code_of, ◌·◌, dir_digit, digit013, digit89_b, spot_code, be16, be24, be32}
use Rattle.codes.specs.Valid.{Valid, Digit, HasSpot}
use Rattle.products.specs.Products.{product_width}
use Rattle.decoder.specs.MirrorWords.{pick, exactly, below, held, reg_reg, long_reg, inc_decs, shifts, shift_of, unaries, bcc_digit, move_of, memory_of, next_op, plans, plan_of}
use Rattle.decoder.specs.MirrorWords.{long_memory, long_logic, is_ezero, e_zero, either, numbered, by_part, reads_of, writes_of, after_of}
use Rattle.decoder.specs.MirrorDecode.{tail_of_rest, fill_of, begun_of, two_words, starts_of, prefix_of}

-- ---- digits and tests

digits : {A : Type 0} (f : ℕ → ℕ → A) (h : ℕ) {d : ℕ} → d < 16 → f ((h * 16 + d) / 16) ((h * 16 + d) % 16) ≡ f h d
digits f h k = ap₂ f (digits_div h k) (digits_mod h k)

short : {p : Option Plan} {d : ℕ} → d < 8 → below d 8 p ≡ p
short {d = d} h = rw (lt-ltb d 8 h)

-- a test that holds
taken : {x k : ℕ} {p : Option Plan} → x ≡ k → exactly x k p ≡ p
taken {x} {k} e = rw (eq-eqb x k e)

-- e0
at_e_zero : (f : ℕ → Option Plan) (e : ℕ) → e < 8 → e_zero (e · 0) (f ((e · 0) / 16)) ≡ f e
at_e_zero f e h = digits (λ x y. pick (pick (eqb y 0) (ltb x 8) false) (f x) None) e (omega arith) ∙ short h

cut_e_zero : (e : ℕ) → e < 8 → pick (is_ezero (e · 0)) Cut Unlisted ≡ Cut
cut_e_zero e h = digits (λ x y. pick (pick (eqb y 0) (ltb x 8) false) Cut Unlisted) e (omega arith) ∙ rw (lt-ltb e 8 h)

-- ---- what a plan makes of the bytes that follow

pub data Ends (p : Option Plan) (i : Instruction) : List ℕ → Type 0 where
  all : p ≡ Some (Whole i) → Ends p i []
  two : (q : Rest) {x y : ℕ} → p ≡ Some (Lacks q) → tail_of_rest q ≡ Bits16 → fill_of q (x * 256 + y) ≡ i → Ends p i (x ∷ y ∷ [])
  zero_three : (q : Rest) {y z w : ℕ} → p ≡ Some (Lacks q) → tail_of_rest q ≡ Bits24 → fill_of q (0 * 16777216 + y * 65536 + z * 256 + w) ≡ i → Ends p i (0 ∷ y ∷ z ∷ w ∷ [])
  four : (q : Rest) {x y z w : ℕ} → p ≡ Some (Lacks q) → tail_of_rest q ≡ Bits32 → fill_of q (x * 16777216 + y * 65536 + z * 256 + w) ≡ i → Ends p i (x ∷ y ∷ z ∷ w ∷ [])

pub data Shape (i : Instruction) : List ℕ → Type 0 where
  plain : {a b : ℕ} {t : List ℕ} → two_words a ≡ false → starts_of a ≡ Cut → Ends (plan_of a b) i t → Shape i (a ∷ b ∷ t)
  long : {a b c d : ℕ} {t : List ℕ} → two_words a ≡ true → prefix_of a b ≡ Cut → begun_of (after_of a b c 0) ≡ Cut → Ends (after_of a b c d) i t
      → Shape i (a ∷ b ∷ c ∷ d ∷ t)

-- a code of one word whose first byte is a numeral
one : {a b : ℕ} {i : Instruction} → two_words a ≡ false → starts_of a ≡ Cut → plan_of a b ≡ Some (Whole i) → Shape i (a ∷ b ∷ [])
one n s e = plain n s (all e)

-- register to register
regs : {op : Op} {w : Width} {a : ℕ} → two_words a ≡ false → starts_of a ≡ Cut → ((b : ℕ) → plan_of a b ≡ reg_reg op w b)
    → (s d : ℕ) → d < 16 → Shape (Alu op w (Reg s) d) (a ∷ s · d ∷ [])
regs {op} {w} n st f s d h = one n st (f (s · d) ∙ digits (λ x y. Some (Whole (Alu op w (Reg x) y))) s h)

-- (8+e)e
longs : {op : Op} {a : ℕ} → two_words a ≡ false → starts_of a ≡ Cut → ((b : ℕ) → 16 ≤ b → plan_of a b ≡ long_reg op b)
    → (s d : ℕ) → s < 8 → d < 8 → Shape (Alu op Long (Reg s) d) (a ∷ (8 + s) · d ∷ [])
longs {op} n st f s d hs hd =
    one n st
    (f ((8 + s) · d) (omega arith)
    ∙ rw (le-ltb ((8 + s) · d) 128 (omega arith))
    (digits (λ x y. below y 8 (Some (Whole (Alu op Long (Reg (x - 8)) y)))) (8 + s) (omega arith)
    ∙ short hd
    ∙ ap (λ x. Some (Whole (Alu op Long (Reg x) d))) (add-sub_cancel_left 8 s)))

-- a first byte that is a digit and a register
first : (h b : ℕ) {d : ℕ} → d < 16 → plan_of (h · d) b ≡ plans h d b
first h b k = digits (λ x y. plans x y b) h k

-- and none that begins two words
one_word : (h d : ℕ) → d < 16 → (h ≡ 0 → ⊥) → (h ≡ 7 → ⊥) → two_words (h · d) ≡ false
one_word h d k n0 n7 = rw (
  ne_eqb (h · d) 0x01 (λ e. n0 (omega arith)),
  ne_eqb (h · d) 0x7C (λ e. n7 (omega arith)),
  ne_eqb (h · d) 0x7D (λ e. n7 (omega arith)),
  ne_eqb (h · d) 0x7E (λ e. n7 (omega arith)),
  ne_eqb (h · d) 0x7F (λ e. n7 (omega arith)),
)

by_first : (h : ℕ) {d b : ℕ} {i : Instruction} → d < 16 → (h ≡ 0 → ⊥) → (h ≡ 5 → ⊥) → (h ≡ 7 → ⊥) → begun_of (plans h d 0) ≡ Cut
    → plans h d b ≡ Some (Whole i) → Shape i (h · d ∷ b ∷ [])
by_first h {d} {b} k n0 n5 n7 s e =
    plain {a = h · d} (one_word h d k n0 n7)
    (rw (one_word h d k n0 n7, ne_eqb (h · d) 0x54 (λ z. n5 (omega arith))) (ap begun_of (first h 0 k) ∙ s))
    (all (first h b k ∙ e))

-- ---- the second byte of a MOV with memory, and the numbers that follow

at_memory : (w : Width) (mode : Mode) (dir : Dir) (e r : ℕ) → e < 8 → r < 16 → memory_of w mode ((dir_digit dir + e) · r) ≡ move_of w mode dir e r
at_memory w mode Load e r he hr =
    rw (lt-ltb ((0 + e) · r) 128 (omega arith))
    (digits (λ x y. move_of w mode Load x y) (0 + e) hr ∙ ap (λ x. move_of w mode Load x r) (zero-add e))
at_memory w mode Store e r he hr =
    rw (le-ltb ((8 + e) · r) 128 (omega arith))
    (digits (λ x y. move_of w mode Store (x - 8) y) (8 + e) hr ∙ ap (λ x. move_of w mode Store x r) (add-sub_cancel_left 8 e))

at_long : (mode : Mode) (dir : Dir) (e r : ℕ) → e < 8 → r < 8 → long_memory mode ((dir_digit dir + e) · r) ≡ move_of Long mode dir e r
at_long mode dir e r he hr =
    ap (λ x. pick (ltb x 8) (memory_of Long mode ((dir_digit dir + e) · r)) None) (digits_mod (dir_digit dir + e) (omega arith))
    ∙ rw (lt-ltb r 8 hr) (at_memory Long mode dir e r he (omega arith))

at_logic : (op : Op) (s d : ℕ) → s < 8 → d < 8 → long_logic op (s · d) ≡ Some (Whole (Alu op Long (Reg s) d))
at_logic op s d hs hd =
    rw (lt-ltb (s · d) 128 (omega arith))
    (digits (λ x y. below y 8 (Some (Whole (Alu op Long (Reg x) y)))) s (omega arith) ∙ short hd)

low16 : (v : ℕ) → v < 0x10000 → (v / 256 * 256 + v % 256) % 65536 ≡ v
low16 v h = omega arith

whole16 : (v : ℕ) → v / 256 * 256 + v % 256 ≡ v
whole16 v = div-add-mod' v 256

whole24 : (v : ℕ) → 0 * 16777216 + v / 65536 * 65536 + v / 256 % 256 * 256 + v % 256 ≡ v
whole24 v = omega arith

whole32 : (v : ℕ) → v / 16777216 * 16777216 + v / 65536 % 256 * 65536 + v / 256 % 256 * 256 + v % 256 ≡ v
whole32 v = omega arith

-- aa:24 in a word and a byte
apart24 : (v : ℕ) → v < 0x1000000 → v / 65536 * 65536 + (v / 256 % 256 * 256 + v % 256) % 65536 ≡ v
apart24 v h = omega arith

-- ---- the shape of each code

reg_shape : (op : Op) (w : Width) (s d : ℕ) → Valid (Alu op w (Reg s) d) → Shape (Alu op w (Reg s) d) (code_of (Alu op w (Reg s) d))
reg_shape Add Byte s d v = regs refl refl (λ b. refl) s d v.2
reg_shape Sub Byte s d v = regs refl refl (λ b. refl) s d v.2
reg_shape Cmp Byte s d v = regs refl refl (λ b. refl) s d v.2
reg_shape Mov Byte s d v = regs refl refl (λ b. refl) s d v.2
reg_shape Addx Byte s d v = regs refl refl (λ b. refl) s d v.2
reg_shape Subx Byte s d v = regs refl refl (λ b. refl) s d v.2
reg_shape Or Byte s d v = regs refl refl (λ b. refl) s d v.2
reg_shape Xor Byte s d v = regs refl refl (λ b. refl) s d v.2
reg_shape And Byte s d v = regs refl refl (λ b. refl) s d v.2
reg_shape Add Word s d v = regs refl refl (λ b. refl) s d v.2
reg_shape Sub Word s d v = regs refl refl (λ b. refl) s d v.2
reg_shape Cmp Word s d v = regs refl refl (λ b. refl) s d v.2
reg_shape Mov Word s d v = regs refl refl (λ b. refl) s d v.2
reg_shape Addx Word s d v = absurd v.0
reg_shape Subx Word s d v = absurd v.0
reg_shape Or Word s d v = regs refl refl (λ b. refl) s d v.2
reg_shape Xor Word s d v = regs refl refl (λ b. refl) s d v.2
reg_shape And Word s d v = regs refl refl (λ b. refl) s d v.2
reg_shape Add Long s d v = longs refl refl (λ b h. rw (le-ltb b 16 h)) s d v.1 v.2
reg_shape Sub Long s d v = longs refl refl (λ b h. rw (le-ltb b 16 h)) s d v.1 v.2
reg_shape Cmp Long s d v = longs refl refl (λ b h. rw (le-ltb b 16 h)) s d v.1 v.2
reg_shape Mov Long s d v = longs refl refl (λ b h. rw (le-ltb b 16 h)) s d v.1 v.2
reg_shape Addx Long s d v = absurd v.0
reg_shape Subx Long s d v = absurd v.0
reg_shape Or Long s d v = long refl refl refl (all (at_logic Or s d v.1 v.2))
reg_shape Xor Long s d v = long refl refl refl (all (at_logic Xor s d v.1 v.2))
reg_shape And Long s d v = long refl refl refl (all (at_logic And s d v.1 v.2))

-- an immediate byte: the first digit is 8 to F
by_imm8 : {op : Op} (h : ℕ) {d v : ℕ} → 8 ≤ h → d < 16 → plans h d v ≡ Some (Whole (Alu op Byte (Imm v) d)) → begun_of (plans h d 0) ≡ Cut
    → Shape (Alu op Byte (Imm v) d) (h · d ∷ v ∷ [])
by_imm8 h k hd e s = by_first h hd (omega arith) (omega arith) (omega arith) s e

-- 79: the second byte's upper digit is 0 to 6
by_imm16 : {op : Op} (h : ℕ) {d v : ℕ} → h < 7 → d < 16 → next_op h ≡ op → Shape (Alu op Word (Imm v) d) (0x79 ∷ h · d ∷ be16 v)
by_imm16 {op} h {d} {v} k hd e =
    plain {a = 0x79} {b = h · d} refl refl
    (two (Imm16 op d)
    (rw (lt-ltb (h · d) 0x70 (omega arith)) (digits (λ x y. Some (Lacks (Imm16 (next_op x) y))) h hd ∙ ap (λ x. Some (Lacks (Imm16 x d))) e))
    refl
    (ap (λ x. Alu op Word (Imm x) d) (whole16 v)))

by_imm32 : {op : Op} (h : ℕ) {d v : ℕ} → h < 7 → d < 8 → next_op h ≡ op → Shape (Alu op Long (Imm v) d) (0x7A ∷ h · d ∷ be32 v)
by_imm32 {op} h {d} {v} k hd e =
    plain {a = 0x7A} {b = h · d} refl refl
    (four (Imm32 op d)
    (rw (lt-ltb (h · d) 0x70 (omega arith))
    (digits (λ x y. below y 8 (Some (Lacks (Imm32 (next_op x) y)))) h (omega arith) ∙ short hd ∙ ap (λ x. Some (Lacks (Imm32 x d))) e))
    refl
    (ap (λ x. Alu op Long (Imm x) d) (whole32 v)))

imm_shape : (op : Op) (w : Width) (v d : ℕ) → Valid (Alu op w (Imm v) d) → Shape (Alu op w (Imm v) d) (code_of (Alu op w (Imm v) d))
imm_shape Add Byte v d k = by_imm8 8 (omega arith) k.2 refl refl
imm_shape Addx Byte v d k = by_imm8 9 (omega arith) k.2 refl refl
imm_shape Cmp Byte v d k = by_imm8 10 (omega arith) k.2 refl refl
imm_shape Subx Byte v d k = by_imm8 11 (omega arith) k.2 refl refl
imm_shape Or Byte v d k = by_imm8 12 (omega arith) k.2 refl refl
imm_shape Xor Byte v d k = by_imm8 13 (omega arith) k.2 refl refl
imm_shape And Byte v d k = by_imm8 14 (omega arith) k.2 refl refl
imm_shape Mov Byte v d k = by_imm8 15 (omega arith) k.2 refl refl
imm_shape Sub Byte v d k = absurd k.0
imm_shape Mov Word v d k = by_imm16 0 (omega arith) k.2 refl
imm_shape Add Word v d k = by_imm16 1 (omega arith) k.2 refl
imm_shape Cmp Word v d k = by_imm16 2 (omega arith) k.2 refl
imm_shape Sub Word v d k = by_imm16 3 (omega arith) k.2 refl
imm_shape Or Word v d k = by_imm16 4 (omega arith) k.2 refl
imm_shape Xor Word v d k = by_imm16 5 (omega arith) k.2 refl
imm_shape And Word v d k = by_imm16 6 (omega arith) k.2 refl
imm_shape Addx Word v d k = absurd k.0
imm_shape Subx Word v d k = absurd k.0
imm_shape Mov Long v d k = by_imm32 0 (omega arith) k.2 refl
imm_shape Add Long v d k = by_imm32 1 (omega arith) k.2 refl
imm_shape Cmp Long v d k = by_imm32 2 (omega arith) k.2 refl
imm_shape Sub Long v d k = by_imm32 3 (omega arith) k.2 refl
imm_shape Or Long v d k = by_imm32 4 (omega arith) k.2 refl
imm_shape Xor Long v d k = by_imm32 5 (omega arith) k.2 refl
imm_shape And Long v d k = by_imm32 6 (omega arith) k.2 refl
imm_shape Addx Long v d k = absurd k.0
imm_shape Subx Long v d k = absurd k.0

-- a second byte of a digit and a register
by_digits : (f : ℕ → ℕ → Option Plan) (h : ℕ) {a d : ℕ} {i : Instruction} → two_words a ≡ false → starts_of a ≡ Cut → ((b : ℕ) → plan_of a b ≡ f (b / 16) (b % 16))
    → d < 16 → f h d ≡ Some (Whole i) → Shape i (a ∷ h · d ∷ [])
by_digits f h {d = d} n st g hd e = one n st (g (h · d) ∙ digits f h hd ∙ e)

inc_dec_shape : (way : Way) (w : Width) (by : By) (r : ℕ) → Valid (IncDec way w by r) → Shape (IncDec way w by r) (code_of (IncDec way w by r))
inc_dec_shape Up Byte One r v = one refl refl (rw (lt-ltb (0 · r) 16 (omega arith)) (ap (λ x. Some (Whole (IncDec Up Byte One x))) (zero-add r)))
inc_dec_shape Down Byte One r v = one refl refl (rw (lt-ltb (0 · r) 16 (omega arith)) (ap (λ x. Some (Whole (IncDec Down Byte One x))) (zero-add r)))
inc_dec_shape Up Byte Two r v = absurd v.0
inc_dec_shape Down Byte Two r v = absurd v.0
inc_dec_shape Up Byte Four r v = absurd v.0
inc_dec_shape Down Byte Four r v = absurd v.0
inc_dec_shape Up Word One r v = by_digits (inc_decs Up) 5 refl refl (λ b. refl) v.1 refl
inc_dec_shape Down Word One r v = by_digits (inc_decs Down) 5 refl refl (λ b. refl) v.1 refl
inc_dec_shape Up Word Two r v = by_digits (inc_decs Up) 13 refl refl (λ b. refl) v.1 refl
inc_dec_shape Down Word Two r v = by_digits (inc_decs Down) 13 refl refl (λ b. refl) v.1 refl
inc_dec_shape Up Word Four r v = absurd v.0
inc_dec_shape Down Word Four r v = absurd v.0
inc_dec_shape Up Long One r v = by_digits (inc_decs Up) 7 refl refl (λ b. refl) (omega arith) (short v.1)
inc_dec_shape Down Long One r v = by_digits (inc_decs Down) 7 refl refl (λ b. refl) (omega arith) (short v.1)
inc_dec_shape Up Long Two r v = by_digits (inc_decs Up) 15 refl refl (λ b. refl) (omega arith) (short v.1)
inc_dec_shape Down Long Two r v = by_digits (inc_decs Down) 15 refl refl (λ b. refl) (omega arith) (short v.1)
inc_dec_shape Up Long Four r v = absurd v.0
inc_dec_shape Down Long Four r v = absurd v.0

adds_shape : (way : Way) (by : By) (e : ℕ) → e < 8 → Shape (AddsSubs way by e) (code_of (AddsSubs way by e))
adds_shape Up One e v = by_digits (inc_decs Up) 0 refl refl (λ b. refl) (omega arith) (short v)
adds_shape Down One e v = by_digits (inc_decs Down) 0 refl refl (λ b. refl) (omega arith) (short v)
adds_shape Up Two e v = by_digits (inc_decs Up) 8 refl refl (λ b. refl) (omega arith) (short v)
adds_shape Down Two e v = by_digits (inc_decs Down) 8 refl refl (λ b. refl) (omega arith) (short v)
adds_shape Up Four e v = by_digits (inc_decs Up) 9 refl refl (λ b. refl) (omega arith) (short v)
adds_shape Down Four e v = by_digits (inc_decs Down) 9 refl refl (λ b. refl) (omega arith) (short v)

decimal_shape : (way : Way) (r : ℕ) → r < 16 → Shape (Decimal way r) (code_of (Decimal way r))
decimal_shape Up r v = one refl refl (rw (lt-ltb (0 · r) 16 (omega arith)) (ap (λ x. Some (Whole (Decimal Up x))) (zero-add r)))
decimal_shape Down r v = one refl refl (rw (lt-ltb (0 · r) 16 (omega arith)) (ap (λ x. Some (Whole (Decimal Down x))) (zero-add r)))

-- a pair of shifts in one row
turns : (t u : Turn) {a : ℕ} → two_words a ≡ false → starts_of a ≡ Cut → ((b : ℕ) → plan_of a b ≡ shift_of t u b) → (w : Width) (r : ℕ) → Digit w r
    → Shape (Shift t w r) (a ∷ digit013 w · r ∷ []) × Shape (Shift u w r) (a ∷ digit89_b w · r ∷ [])
turns t u n st g Byte r v = (by_digits (shifts t u) 0 n st g v refl, by_digits (shifts t u) 8 n st g v refl)
turns t u n st g Word r v = (by_digits (shifts t u) 1 n st g v refl, by_digits (shifts t u) 9 n st g v refl)
turns t u n st g Long r v = (by_digits (shifts t u) 3 n st g (omega arith) (short v), by_digits (shifts t u) 11 n st g (omega arith) (short v))

shift_shape : (t : Turn) (w : Width) (r : ℕ) → Digit w r → Shape (Shift t w r) (code_of (Shift t w r))
shift_shape Shll w r v = (turns Shll Shal refl refl (λ b. refl) w r v).0
shift_shape Shal w r v = (turns Shll Shal refl refl (λ b. refl) w r v).1
shift_shape Shlr w r v = (turns Shlr Shar refl refl (λ b. refl) w r v).0
shift_shape Shar w r v = (turns Shlr Shar refl refl (λ b. refl) w r v).1
shift_shape Rotxl w r v = (turns Rotxl Rotl refl refl (λ b. refl) w r v).0
shift_shape Rotl w r v = (turns Rotxl Rotl refl refl (λ b. refl) w r v).1
shift_shape Rotxr w r v = (turns Rotxr Rotr refl refl (λ b. refl) w r v).0
shift_shape Rotr w r v = (turns Rotxr Rotr refl refl (λ b. refl) w r v).1

unary_shape : (u : Single) (w : Width) (r : ℕ) → Valid (Unary u w r) → Shape (Unary u w r) (code_of (Unary u w r))
unary_shape Not Byte r v = by_digits unaries 0 refl refl (λ b. refl) v.1 refl
unary_shape Not Word r v = by_digits unaries 1 refl refl (λ b. refl) v.1 refl
unary_shape Not Long r v = by_digits unaries 3 refl refl (λ b. refl) (omega arith) (short v.1)
unary_shape Neg Byte r v = by_digits unaries 8 refl refl (λ b. refl) v.1 refl
unary_shape Neg Word r v = by_digits unaries 9 refl refl (λ b. refl) v.1 refl
unary_shape Neg Long r v = by_digits unaries 11 refl refl (λ b. refl) (omega arith) (short v.1)
unary_shape Extu Byte r v = absurd v.0
unary_shape Extu Word r v = by_digits unaries 5 refl refl (λ b. refl) v.1 refl
unary_shape Extu Long r v = by_digits unaries 7 refl refl (λ b. refl) (omega arith) (short v.1)
unary_shape Exts Byte r v = absurd v.0
unary_shape Exts Word r v = by_digits unaries 13 refl refl (λ b. refl) v.1 refl
unary_shape Exts Long r v = by_digits unaries 15 refl refl (λ b. refl) (omega arith) (short v.1)

-- the destination's digit, r or e by the width of the product
product_digit : (h : Half) (d : ℕ) → Digit (product_width h) d → d < 16
product_digit Eight d v = v
product_digit Sixteen d v = omega arith

product_held : (h : Half) (d : ℕ) {p : Option Plan} → Digit (product_width h) d → held (product_width h) d p ≡ p
product_held Eight d v = refl
product_held Sixteen d v = short v

at_product : (make : ℕ → ℕ → Instruction) (h : Half) (s d : ℕ) → Digit (product_width h) d
    → held (product_width h) ((s · d) % 16) (Some (Whole (make ((s · d) / 16) ((s · d) % 16)))) ≡ Some (Whole (make s d))
at_product make h s d v = digits (λ x y. held (product_width h) y (Some (Whole (make x y)))) s (product_digit h d v) ∙ product_held h d v

multiply_shape : (sign : Sign) (h : Half) (s d : ℕ) → Digit (product_width h) d → Shape (Multiply sign h s d) (code_of (Multiply sign h s d))
multiply_shape Unsigned Eight s d v = one refl refl (at_product (Multiply Unsigned Eight) Eight s d v)
multiply_shape Unsigned Sixteen s d v = one refl refl (at_product (Multiply Unsigned Sixteen) Sixteen s d v)
multiply_shape Signed Eight s d v = long refl refl refl (all (at_product (Multiply Signed Eight) Eight s d v))
multiply_shape Signed Sixteen s d v = long refl refl refl (all (at_product (Multiply Signed Sixteen) Sixteen s d v))

divide_shape : (sign : Sign) (h : Half) (s d : ℕ) → Digit (product_width h) d → Shape (Divide sign h s d) (code_of (Divide sign h s d))
divide_shape Unsigned Eight s d v = one refl refl (at_product (Divide Unsigned Eight) Eight s d v)
divide_shape Unsigned Sixteen s d v = one refl refl (at_product (Divide Unsigned Sixteen) Sixteen s d v)
divide_shape Signed Eight s d v = long refl refl refl (all (at_product (Divide Signed Eight) Eight s d v))
divide_shape Signed Sixteen s d v = long refl refl refl (all (at_product (Divide Signed Sixteen) Sixteen s d v))

-- ---- the bit instructions

-- What `plan` makes of a word is an instruction with its bit in a byte register, at @ER behind `lead`, or at aa:8 behind `lead + 2`.
module _ (lead : ℕ) (plan : ℕ → ℕ → Spot → Option Plan) (er : two_words lead ≡ true) (abs : two_words (lead + 2) ≡ true)
    (cut-er : (b : ℕ) → prefix_of lead b ≡ pick (is_ezero b) Cut Unlisted) (cut-abs : (b : ℕ) → prefix_of (lead + 2) b ≡ Cut)
    (after-er : (b c d : ℕ) → after_of lead b c d ≡ e_zero b (exactly (d % 16) 0 (plan c d (AtEr (b / 16)))))
    (after-abs : (b c d : ℕ) → after_of (lead + 2) b c d ≡ exactly (d % 16) 0 (plan c d (AtAbs b))) where
  bit_shape : (byte digit : ℕ) (make : Spot → Instruction) → two_words byte ≡ false → starts_of byte ≡ Cut
      → ((b : ℕ) → plan_of byte b ≡ plan byte b (InPart (b % 16))) → ((spot : Spot) → begun_of (plan byte 0 spot) ≡ Cut)
      → ((spot : Spot) (d : ℕ) → d < 16 → plan byte (digit · d) spot ≡ Some (Whole (make spot)))
      → (spot : Spot) → HasSpot spot → Shape (make spot) (spot_code lead spot byte digit)
  bit_shape byte digit make n st f cut g (InPart d) v =
      one n st (f (digit · d) ∙ ap (λ x. plan byte (digit · d) (InPart x)) (digits_mod digit v) ∙ g (InPart d) d v)
  bit_shape byte digit make n st f cut g (AtEr e) v =
      long {a = lead} {b = e · 0} {c = byte} {d = digit · 0} er
      (cut-er (e · 0) ∙ cut_e_zero e v)
      (ap begun_of (after-er (e · 0) byte 0 ∙ at_e_zero (λ x. plan byte 0 (AtEr x)) e v) ∙ cut (AtEr e))
      (all (after-er (e · 0) byte (digit · 0)
      ∙ at_e_zero (λ x. exactly ((digit · 0) % 16) 0 (plan byte (digit · 0) (AtEr x))) e v
      ∙ taken {x = (digit · 0) % 16} {k = 0} (omega arith)
      ∙ g (AtEr e) 0 (omega arith)))
  bit_shape byte digit make n st f cut g (AtAbs a) v =
      long {a = lead + 2} {b = a} {c = byte} {d = digit · 0} abs
      (cut-abs a)
      (ap begun_of (after-abs a byte 0) ∙ cut (AtAbs a))
      (all (after-abs a byte (digit · 0) ∙ taken {x = (digit · 0) % 16} {k = 0} (omega arith) ∙ g (AtAbs a) 0 (omega arith)))

reads : (byte digit : ℕ) (make : Spot → Instruction) → two_words byte ≡ false → starts_of byte ≡ Cut
    → ((b : ℕ) → plan_of byte b ≡ reads_of byte b (InPart (b % 16))) → ((spot : Spot) → begun_of (reads_of byte 0 spot) ≡ Cut)
    → ((spot : Spot) (d : ℕ) → d < 16 → reads_of byte (digit · d) spot ≡ Some (Whole (make spot)))
    → (spot : Spot) → HasSpot spot → Shape (make spot) (spot_code 0x7C spot byte digit)
reads = bit_shape 0x7C reads_of refl refl (λ b. refl) (λ b. refl) (λ b c d. refl) (λ b c d. refl)

writes : (byte digit : ℕ) (make : Spot → Instruction) → two_words byte ≡ false → starts_of byte ≡ Cut
    → ((b : ℕ) → plan_of byte b ≡ writes_of byte b (InPart (b % 16))) → ((spot : Spot) → begun_of (writes_of byte 0 spot) ≡ Cut)
    → ((spot : Spot) (d : ℕ) → d < 16 → writes_of byte (digit · d) spot ≡ Some (Whole (make spot)))
    → (spot : Spot) → HasSpot spot → Shape (make spot) (spot_code 0x7D spot byte digit)
writes = bit_shape 0x7D writes_of refl refl (λ b. refl) (λ b. refl) (λ b c d. refl) (λ b c d. refl)

-- a bit's number in the upper digit of a second byte; with 8 added, the inverted instruction's
is_low : (n d : ℕ) → n < 8 → d < 16 → ltb ((0 + n) · d) 128 ≡ true
is_low n d hn hd = lt-ltb ((0 + n) · d) 128 (omega arith)

is_high : (n d : ℕ) → n < 8 → d < 16 → ltb ((8 + n) · d) 128 ≡ false
is_high n d hn hd = le-ltb ((8 + n) · d) 128 (omega arith)

low_number : (make : ℕ → Instruction) (n : ℕ) {d : ℕ} → d < 16 → (Some (Whole (make (((0 + n) · d) / 16)))) ≡ Some (Whole (make n))
low_number make n hd = ap (λ x. Some (Whole (make x))) (digits_div (0 + n) hd ∙ zero-add n)

high_number : (make : ℕ → Instruction) (n : ℕ) {d : ℕ} → d < 16 → (Some (Whole (make (((8 + n) · d) / 16 - 8)))) ≡ Some (Whole (make n))
high_number make n hd = ap (λ x. Some (Whole (make (x - 8)))) (digits_div (8 + n) hd) ∙ ap (λ x. Some (Whole (make x))) (add-sub_cancel_left 8 n)

part_number : (make : ℕ → Instruction) (r : ℕ) {d : ℕ} → d < 16 → (Some (Whole (make ((r · d) / 16)))) ≡ Some (Whole (make r))
part_number make r hd = ap (λ x. Some (Whole (make x))) (digits_div r hd)

-- a pair of readers at one byte
take_pair : (t u : Take) (byte : ℕ) → two_words byte ≡ false → starts_of byte ≡ Cut → ((b : ℕ) → plan_of byte b ≡ reads_of byte b (InPart (b % 16)))
    → ((b : ℕ) (spot : Spot) → reads_of byte b spot ≡ either Takes t u b spot) → (n : ℕ) → n < 8 → (spot : Spot) → HasSpot spot
    → Shape (Takes t (Numbered n) spot) (spot_code 0x7C spot byte (0 + n)) × Shape (Takes u (Numbered n) spot) (spot_code 0x7C spot byte (8 + n))
take_pair t u byte m st f g n hn spot hs = (
  reads byte (0 + n) (Takes t (Numbered n)) m st f (λ s. ap begun_of (g 0 s))
      (λ s d h. g ((0 + n) · d) s ∙ rw (is_low n d hn h) (low_number (λ x. Takes t (Numbered x) s) n h)) spot hs,
  reads byte (8 + n) (Takes u (Numbered n)) m st f (λ s. ap begun_of (g 0 s))
      (λ s d h. g ((8 + n) · d) s ∙ rw (is_high n d hn h) (high_number (λ x. Takes u (Numbered x) s) n h)) spot hs,
)

take_shape : (take : Take) (index : Index) (spot : Spot) → Valid (Takes take index spot) → Shape (Takes take index spot) (code_of (Takes take index spot))
take_shape Btst (Numbered n) spot v =
    reads 0x73 (0 + n) (Takes Btst (Numbered n)) refl refl (λ b. refl) (λ s. refl)
    (λ s d h. rw (is_low n d v.0 h) (low_number (λ x. Takes Btst (Numbered x) s) n h)) spot v.1
take_shape Btst (ByPart r) spot v =
    reads 0x63 r (Takes Btst (ByPart r)) refl refl (λ b. refl) (λ s. refl) (λ s d. part_number (λ x. Takes Btst (ByPart x) s) r) spot v.1
take_shape Bor (Numbered n) spot v = (take_pair Bor Bior 0x74 refl refl (λ b. refl) (λ b s. refl) n v.0 spot v.1).0
take_shape Bior (Numbered n) spot v = (take_pair Bor Bior 0x74 refl refl (λ b. refl) (λ b s. refl) n v.0 spot v.1).1
take_shape Bxor (Numbered n) spot v = (take_pair Bxor Bixor 0x75 refl refl (λ b. refl) (λ b s. refl) n v.0 spot v.1).0
take_shape Bixor (Numbered n) spot v = (take_pair Bxor Bixor 0x75 refl refl (λ b. refl) (λ b s. refl) n v.0 spot v.1).1
take_shape Band (Numbered n) spot v = (take_pair Band Biand 0x76 refl refl (λ b. refl) (λ b s. refl) n v.0 spot v.1).0
take_shape Biand (Numbered n) spot v = (take_pair Band Biand 0x76 refl refl (λ b. refl) (λ b s. refl) n v.0 spot v.1).1
take_shape Bld (Numbered n) spot v = (take_pair Bld Bild 0x77 refl refl (λ b. refl) (λ b s. refl) n v.0 spot v.1).0
take_shape Bild (Numbered n) spot v = (take_pair Bld Bild 0x77 refl refl (λ b. refl) (λ b s. refl) n v.0 spot v.1).1
take_shape Bor (ByPart r) spot v = absurd v.0.0
take_shape Bior (ByPart r) spot v = absurd v.0.0
take_shape Bxor (ByPart r) spot v = absurd v.0.0
take_shape Bixor (ByPart r) spot v = absurd v.0.0
take_shape Band (ByPart r) spot v = absurd v.0.0
take_shape Biand (ByPart r) spot v = absurd v.0.0
take_shape Bld (ByPart r) spot v = absurd v.0.0
take_shape Bild (ByPart r) spot v = absurd v.0.0

-- a writer by a number and by a register
give_numbered_lem : (give : Give) (byte : ℕ) → two_words byte ≡ false → starts_of byte ≡ Cut → ((b : ℕ) → plan_of byte b ≡ writes_of byte b (InPart (b % 16)))
    → ((b : ℕ) (spot : Spot) → writes_of byte b spot ≡ numbered Gives give b spot) → (n : ℕ) → n < 8 → (spot : Spot) → HasSpot spot
    → Shape (Gives give (Numbered n) spot) (spot_code 0x7D spot byte (0 + n))
give_numbered_lem give byte m st f g n hn =
    writes byte (0 + n) (Gives give (Numbered n)) m st f (λ s. ap begun_of (g 0 s))
    (λ s d h. g ((0 + n) · d) s ∙ rw (is_low n d hn h) (low_number (λ x. Gives give (Numbered x) s) n h))

give_by_part_lem : (give : Give) (byte : ℕ) → two_words byte ≡ false → starts_of byte ≡ Cut → ((b : ℕ) → plan_of byte b ≡ writes_of byte b (InPart (b % 16)))
    → ((b : ℕ) (spot : Spot) → writes_of byte b spot ≡ by_part Gives give b spot) → (r : ℕ) (spot : Spot) → HasSpot spot
    → Shape (Gives give (ByPart r) spot) (spot_code 0x7D spot byte r)
give_by_part_lem give byte m st f g r =
    writes byte r (Gives give (ByPart r)) m st f (λ s. ap begun_of (g 0 s)) (λ s d h. g (r · d) s ∙ part_number (λ x. Gives give (ByPart x) s) r h)

give_shape : (give : Give) (index : Index) (spot : Spot) → Valid (Gives give index spot) → Shape (Gives give index spot) (code_of (Gives give index spot))
give_shape Bset (Numbered n) spot v = give_numbered_lem Bset 0x70 refl refl (λ b. refl) (λ b s. refl) n v.0 spot v.1
give_shape Bnot (Numbered n) spot v = give_numbered_lem Bnot 0x71 refl refl (λ b. refl) (λ b s. refl) n v.0 spot v.1
give_shape Bclr (Numbered n) spot v = give_numbered_lem Bclr 0x72 refl refl (λ b. refl) (λ b s. refl) n v.0 spot v.1
give_shape Bset (ByPart r) spot v = give_by_part_lem Bset 0x60 refl refl (λ b. refl) (λ b s. refl) r spot v.1
give_shape Bnot (ByPart r) spot v = give_by_part_lem Bnot 0x61 refl refl (λ b. refl) (λ b s. refl) r spot v.1
give_shape Bclr (ByPart r) spot v = give_by_part_lem Bclr 0x62 refl refl (λ b. refl) (λ b s. refl) r spot v.1
give_shape Bst (Numbered n) spot v =
    writes 0x67 (0 + n) (Gives Bst (Numbered n)) refl refl (λ b. refl) (λ s. refl)
    (λ s d h. rw (is_low n d v.0 h) (low_number (λ x. Gives Bst (Numbered x) s) n h)) spot v.1
give_shape Bist (Numbered n) spot v =
    writes 0x67 (8 + n) (Gives Bist (Numbered n)) refl refl (λ b. refl) (λ s. refl)
    (λ s d h. rw (is_high n d v.0 h) (high_number (λ x. Gives Bist (Numbered x) s) n h)) spot v.1
give_shape Bst (ByPart r) spot v = absurd v.0.0
give_shape Bist (ByPart r) spot v = absurd v.0.0

-- what follows the second byte of a MOV with memory
ends_disp : {p : Option Plan} (dir : Dir) (w : Width) (e d r : ℕ) → d < 0x10000 → p ≡ move_of w Displaced dir e r → Ends p (Move dir w (Disp e d) r) (be16 d)
ends_disp dir w e d r h k = two (Disp16 dir w e r) k refl (ap (λ x. Move dir w (Disp e x) r) (low16 d h))

ends_16 : {p : Option Plan} (dir : Dir) (w : Width) (a r : ℕ) → a < 0x10000 → p ≡ move_of w Absolute dir 0 r → Ends p (Move dir w (Abs16 a) r) (be16 a)
ends_16 dir w a r h k = two (Aa16 dir w r) k refl (ap (λ x. Move dir w (Abs16 x) r) (low16 a h))

ends_24 : {p : Option Plan} (dir : Dir) (w : Width) (a r : ℕ) → p ≡ move_of w Absolute dir 2 r → Ends p (Move dir w (Abs24 a) r) (0 ∷ be24 a)
ends_24 dir w a r k = zero_three (Aa24 dir w r) k refl (ap (λ x. Move dir w (Abs24 x) r) (whole24 a))

move_shape : (dir : Dir) (w : Width) (p : Place) (r : ℕ) → Valid (Move dir w p r) → Shape (Move dir w p r) (code_of (Move dir w p r))
move_shape dir Byte (At e) r v = one refl refl (at_memory Byte Plain dir e r v.0 v.1)
move_shape Load Byte (Abs8 a) r v = by_first 2 v.1 (omega arith) (omega arith) (omega arith) refl refl
move_shape Store Byte (Abs8 a) r v = by_first 3 v.1 (omega arith) (omega arith) (omega arith) refl refl
move_shape dir Byte (Step e) r v = one refl refl (at_memory Byte Stepping dir e r v.0 v.1)
move_shape dir Byte (Disp e d) r v = plain {b = (dir_digit dir + e) · r} refl refl (ends_disp dir Byte e d r v.0.1 (at_memory Byte Displaced dir e r v.0.0 v.1))
move_shape dir Byte (Abs16 a) r v = plain {b = (dir_digit dir + 0) · r} refl refl (ends_16 dir Byte a r v.0 (at_memory Byte Absolute dir 0 r (omega arith) v.1))
move_shape dir Byte (Abs24 a) r v = plain {b = (dir_digit dir + 2) · r} refl refl (ends_24 dir Byte a r (at_memory Byte Absolute dir 2 r (omega arith) v.1))
move_shape dir Word (At e) r v = one refl refl (at_memory Word Plain dir e r v.0 v.1)
move_shape dir Word (Abs8 a) r v = absurd v.0.0
move_shape dir Word (Step e) r v = one refl refl (at_memory Word Stepping dir e r v.0 v.1)
move_shape dir Word (Disp e d) r v = plain {b = (dir_digit dir + e) · r} refl refl (ends_disp dir Word e d r v.0.1 (at_memory Word Displaced dir e r v.0.0 v.1))
move_shape dir Word (Abs16 a) r v = plain {b = (dir_digit dir + 0) · r} refl refl (ends_16 dir Word a r v.0 (at_memory Word Absolute dir 0 r (omega arith) v.1))
move_shape dir Word (Abs24 a) r v = plain {b = (dir_digit dir + 2) · r} refl refl (ends_24 dir Word a r (at_memory Word Absolute dir 2 r (omega arith) v.1))
move_shape dir Long (At e) r v = long {d = (dir_digit dir + e) · r} refl refl refl (all (at_long Plain dir e r v.0 v.1))
move_shape dir Long (Abs8 a) r v = absurd v.0.0
move_shape dir Long (Step e) r v = long {d = (dir_digit dir + e) · r} refl refl refl (all (at_long Stepping dir e r v.0 v.1))
move_shape dir Long (Disp e d) r v = long {d = (dir_digit dir + e) · r} refl refl refl (ends_disp dir Long e d r v.0.1 (at_long Displaced dir e r v.0.0 v.1))
move_shape dir Long (Abs16 a) r v = long {d = (dir_digit dir + 0) · r} refl refl refl (ends_16 dir Long a r v.0 (at_long Absolute dir 0 r (omega arith) v.1))
move_shape dir Long (Abs24 a) r v = long {d = (dir_digit dir + 2) · r} refl refl refl (ends_24 dir Long a r (at_long Absolute dir 2 r (omega arith) v.1))

bcc_shape : (c : ℕ) (k : Reach) → Valid (Bcc c k) → Shape (Bcc c k) (code_of (Bcc c k))
bcc_shape c (Near d) v = by_first 4 v.0 (omega arith) (omega arith) (omega arith) refl refl
bcc_shape c (Far d) v =
    plain {a = 0x58} {b = c · 0} refl refl
    (two (Bcc16 c) (taken {x = bcc_digit (c · 0)} {k = 0} (omega arith) ∙ ap (λ x. Some (Lacks (Bcc16 x))) (digits_div c (omega arith))) refl (ap (λ x. Bcc c (Far x)) (low16 d v.1)))

jmp_shape : (t : Target) → Valid (Jmp t) → Shape (Jmp t) (code_of (Jmp t))
jmp_shape (ByReg e) v = one refl refl (at_e_zero (λ x. Some (Whole (Jmp (ByReg x)))) e v)
jmp_shape (Direct a) v = plain {b = a / 65536} refl refl (two (Jmp24 (a / 65536)) refl refl (ap (λ x. Jmp (Direct x)) (apart24 a v)))
jmp_shape (Vector a) v = one refl refl refl

jsr_shape : (t : Target) → Valid (Jsr t) → Shape (Jsr t) (code_of (Jsr t))
jsr_shape (ByReg e) v = one refl refl (at_e_zero (λ x. Some (Whole (Jsr (ByReg x)))) e v)
jsr_shape (Direct a) v = plain {b = a / 65536} refl refl (two (Jsr24 (a / 65536)) refl refl (ap (λ x. Jsr (Direct x)) (apart24 a v)))
jsr_shape (Vector a) v = one refl refl refl

bsr_shape : (k : Reach) → Valid (Bsr k) → Shape (Bsr k) (code_of (Bsr k))
bsr_shape (Near d) v = one refl refl refl
bsr_shape (Far d) v = plain {b = 0} refl refl (two Bsr16 refl refl (ap (λ x. Bsr (Far x)) (low16 d v)))

change_shape : (change : Change) (v : ℕ) → Shape (Ccr change v) (code_of (Ccr change v))
change_shape Orc v = one refl refl refl
change_shape Xorc v = one refl refl refl
change_shape Andc v = one refl refl refl
change_shape Ldc v = one refl refl refl

pub shape : (i : Instruction) → Valid i → Shape i (code_of i)
shape Nop v = one refl refl refl
shape (Stc r) v = one refl refl (rw (lt-ltb (0 · r) 16 (omega arith)) (ap (λ x. Some (Whole (Stc x))) (zero-add r)))
shape (LdcReg r) v = one refl refl (rw (lt-ltb (0 · r) 16 (omega arith)) (ap (λ x. Some (Whole (LdcReg x))) (zero-add r)))
shape (Ccr f n) v = change_shape f n
shape (Alu op w (Reg s) d) v = reg_shape op w s d v
shape (Alu op w (Imm n) d) v = imm_shape op w n d v
shape (IncDec way w by r) v = inc_dec_shape way w by r v
shape (AddsSubs way by e) v = adds_shape way by e v
shape (Decimal way r) v = decimal_shape way r v
shape (Shift t w r) v = shift_shape t w r v
shape (Unary u w r) v = unary_shape u w r v
shape (Multiply sign h s d) v = multiply_shape sign h s d v.1
shape (Divide sign h s d) v = divide_shape sign h s d v.1
shape (Takes take index spot) v = take_shape take index spot v
shape (Gives give index spot) v = give_shape give index spot v
shape (Move dir w p r) v = move_shape dir w p r v
shape (Bcc c k) v = bcc_shape c k v
shape (Jmp t) v = jmp_shape t v
shape (Bsr k) v = bsr_shape k v
shape (Jsr t) v = jsr_shape t v
shape Rts v = one refl refl refl
