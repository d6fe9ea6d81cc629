-- The test of an instruction's fields says whether it is valid.
use Prim.Native.Nat.{ℕ, ◌≤◌, ◌<◌}
use mathlib.Core.Path.{◌≡◌, refl}
use mathlib.Core.Bool.{Bool, true, false}
use native.Mathlib.Omega.{arith}
use lib.Dec.{ltb}
use borrow.Author.Tests.{ltb-true, ltb-false}
use Rattle.encoder.specs.Names.{Width, Byte, Word, Long, Op, Add, Sub, Cmp, Mov, Addx, Subx, Or, Xor, And, Reg, Imm, By, One, Two, Four, Single}
use Rattle.encoder.specs.Names.{Not, Neg, Extu, Exts, Half, Place, At, Step, Disp, Abs8, Abs16, Abs24, Reach, Near, Far, Target, ByReg, Direct, Vector}
use Rattle.encoder.specs.Names.{Instruction, Nop, Stc, LdcReg, Ccr, Alu, IncDec, AddsSubs, Decimal, Shift, Unary, Multiply, Divide, Takes, Gives, Move, Bcc, Jmp, Bsr, Jsr, Rts}
use Rattle.encoder.specs.Names.{Take, Btst, Bor, Bior, Bxor, Bixor, Band, Biand, Bld, Bild, Give, Bset, Bnot, Bclr, Bst, Bist}
use Rattle.encoder.specs.Names.{Index, Numbered, ByPart, Spot, InPart, AtEr, AtAbs}
use Rattle.products.specs.Products.{factor_width, product_width}
use Rattle.codes.specs.Valid.{Digit, Number, IsByte, NotByte, HasReg, HasImm, HasBy, HasUnary, TakesPart, GivesPart, HasIndex, HasSpot, HasPlace, HasReach, HasTarget, Valid}
use Rattle.encoder.specs.MirrorValid.{digit_ok, number_ok, is_byte, not_byte, has_reg, has_imm, has_by, has_unary, has_product, has_place, has_reach, has_target}
use Rattle.encoder.specs.MirrorValid.{takes_part, gives_part, has_index, has_spot, valid_of}
use mathlib.Core.Bool.{◌&&◌}

-- the test k says whether P holds
abbrev pub Says : Bool → Type 0 → Type 0
Says true P = P
Says false P = P → ⊥

says< : (x k : ℕ) → Says (ltb x k) (x < k)
says< x k = go (ltb x k) refl
  where
    go : (t : Bool) → ltb x k ≡ t → Says t (x < k)
    go true e = ltb-true x k e
    go false e = λ h. let l : k ≤ x = ltb-false x k e in omega arith

says2 : (P Q : Type 0) (s t : Bool) → Says s P → Says t Q → Says (s && t) (P × Q)
says2 P Q true true p q = (p, q)
says2 P Q true false p q = λ h. q h.1
says2 P Q false t p q = λ h. p h.0

says3 : (P Q R : Type 0) (s t u : Bool) → Says s P → Says t Q → Says u R → Says (s && t && u) (P × Q × R)
says3 P Q R true true true p q r = (p, q, r)
says3 P Q R true true false p q r = λ h. r h.2
says3 P Q R true false u p q r = λ h. q h.1
says3 P Q R false t u p q r = λ h. p h.0

says_byte : (w : Width) → Says (is_byte w) (IsByte w)
says_byte Byte = tt
says_byte Word = λ h. h
says_byte Long = λ h. h

says_not : (w : Width) → Says (not_byte w) (NotByte w)
says_not Byte = λ h. h
says_not Word = tt
says_not Long = tt

says_digit : (w : Width) (r : ℕ) → Says (digit_ok w r) (Digit w r)
says_digit Byte r = says< r 16
says_digit Word r = says< r 16
says_digit Long e = says< e 8

says_number : (w : Width) (v : ℕ) → Says (number_ok w v) (Number w v)
says_number Byte v = says< v 0x100
says_number Word v = says< v 0x10000
says_number Long v = says< v 0x100000000

says_reg : (op : Op) (w : Width) → Says (has_reg op w) (HasReg op w)
says_reg Add w = tt
says_reg Sub w = tt
says_reg Cmp w = tt
says_reg Mov w = tt
says_reg Addx w = says_byte w
says_reg Subx w = says_byte w
says_reg Or w = tt
says_reg Xor w = tt
says_reg And w = tt

says_imm : (op : Op) (w : Width) → Says (has_imm op w) (HasImm op w)
says_imm Add w = tt
says_imm Sub w = says_not w
says_imm Cmp w = tt
says_imm Mov w = tt
says_imm Addx w = says_byte w
says_imm Subx w = says_byte w
says_imm Or w = tt
says_imm Xor w = tt
says_imm And w = tt

says_by : (w : Width) (by : By) → Says (has_by w by) (HasBy w by)
says_by w One = tt
says_by w Two = says_not w
says_by w Four = λ h. h

says_unary : (single : Single) (w : Width) → Says (has_unary single w) (HasUnary single w)
says_unary Not w = tt
says_unary Neg w = tt
says_unary Extu w = says_not w
says_unary Exts w = says_not w

says_product : (h : Half) (s d : ℕ) → Says (has_product h s d) (Digit (factor_width h) s × Digit (product_width h) d)
says_product h s d =
    says2 (Digit (factor_width h) s) (Digit (product_width h) d) (digit_ok (factor_width h) s) (digit_ok (product_width h) d)
    (says_digit (factor_width h) s) (says_digit (product_width h) d)

says_takes : (take : Take) → Says (takes_part take) (TakesPart take)
says_takes Btst = tt
says_takes Bor = λ h. h
says_takes Bior = λ h. h
says_takes Bxor = λ h. h
says_takes Bixor = λ h. h
says_takes Band = λ h. h
says_takes Biand = λ h. h
says_takes Bld = λ h. h
says_takes Bild = λ h. h

says_gives : (give : Give) → Says (gives_part give) (GivesPart give)
says_gives Bset = tt
says_gives Bnot = tt
says_gives Bclr = tt
says_gives Bst = λ h. h
says_gives Bist = λ h. h

says_index : (part : Bool) (P : Type 0) → Says part P → (index : Index) → Says (has_index part index) (HasIndex P index)
says_index part P p (Numbered n) = says< n 8
says_index part P p (ByPart r) = says2 P (r < 16) part (ltb r 16) p (says< r 16)

says_spot : (spot : Spot) → Says (has_spot spot) (HasSpot spot)
says_spot (InPart d) = says< d 16
says_spot (AtEr e) = says< e 8
says_spot (AtAbs a) = says< a 0x100

says_bit : (part : Bool) (P : Type 0) → Says part P → (index : Index) (spot : Spot)
    → Says (has_index part index && has_spot spot) (HasIndex P index × HasSpot spot)
says_bit part P p index spot =
    says2 (HasIndex P index) (HasSpot spot) (has_index part index) (has_spot spot) (says_index part P p index) (says_spot spot)

says_place : (w : Width) (p : Place) → Says (has_place w p) (HasPlace w p)
says_place w (At e) = says< e 8
says_place w (Step e) = says< e 8
says_place w (Disp e d) = says2 (e < 8) (d < 0x10000) (ltb e 8) (ltb d 0x10000) (says< e 8) (says< d 0x10000)
says_place w (Abs8 a) = says2 (IsByte w) (a < 0x100) (is_byte w) (ltb a 0x100) (says_byte w) (says< a 0x100)
says_place w (Abs16 a) = says< a 0x10000
says_place w (Abs24 a) = says< a 0x1000000

says_reach : (reach : Reach) → Says (has_reach reach) (HasReach reach)
says_reach (Near d) = says< d 0x100
says_reach (Far d) = says< d 0x10000

says_target : (target : Target) → Says (has_target target) (HasTarget target)
says_target (ByReg e) = says< e 8
says_target (Direct a) = says< a 0x1000000
says_target (Vector a) = says< a 0x100

-- the test says whether the instruction is valid
pub says_valid : (i : Instruction) → Says (valid_of i) (Valid i)
says_valid Nop = tt
says_valid (Stc r) = says< r 16
says_valid (LdcReg r) = says< r 16
says_valid (Ccr change v) = says< v 0x100
says_valid (Alu op w (Reg s) d) =
    says3 (HasReg op w) (Digit w s) (Digit w d) (has_reg op w) (digit_ok w s) (digit_ok w d) (says_reg op w) (says_digit w s) (says_digit w d)
says_valid (Alu op w (Imm v) d) =
    says3 (HasImm op w) (Number w v) (Digit w d) (has_imm op w) (number_ok w v) (digit_ok w d) (says_imm op w) (says_number w v) (says_digit w d)
says_valid (IncDec way w by r) = says2 (HasBy w by) (Digit w r) (has_by w by) (digit_ok w r) (says_by w by) (says_digit w r)
says_valid (AddsSubs way by e) = says< e 8
says_valid (Decimal way r) = says< r 16
says_valid (Shift turn w r) = says_digit w r
says_valid (Unary single w r) = says2 (HasUnary single w) (Digit w r) (has_unary single w) (digit_ok w r) (says_unary single w) (says_digit w r)
says_valid (Multiply sign h s d) = says_product h s d
says_valid (Divide sign h s d) = says_product h s d
says_valid (Takes take index spot) = says_bit (takes_part take) (TakesPart take) (says_takes take) index spot
says_valid (Gives give index spot) = says_bit (gives_part give) (GivesPart give) (says_gives give) index spot
says_valid (Move dir w p r) = says2 (HasPlace w p) (Digit w r) (has_place w p) (digit_ok w r) (says_place w p) (says_digit w r)
says_valid (Bcc c reach) = says2 (c < 16) (HasReach reach) (ltb c 16) (has_reach reach) (says< c 16) (says_reach reach)
says_valid (Jmp target) = says_target target
says_valid (Bsr reach) = says_reach reach
says_valid (Jsr target) = says_target target
says_valid Rts = tt
