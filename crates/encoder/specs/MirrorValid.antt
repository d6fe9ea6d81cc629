-- The tests of each field, case by case as the code of `src/valid.rt` does. Nothing here is to be believed: `proofs/` shows that they are `Valid`.
use Rattle.std.specs.Prelude.{ℕ, Bool, true, false, ltb, ◌&&◌}
use Rattle.products.specs.Products.{factor_width, product_width}
use Rattle.encoder.specs.Names.{Width, Byte, Word, Long, Op, Add, Sub, Cmp, Mov, Addx, Subx, Or, Xor, And, Source, Reg, Imm, By, One, Two, Four}
use Rattle.encoder.specs.Names.{Single, Not, Neg, Extu, Exts, Half, Place, At, Step, Disp, Abs8, Abs16, Abs24, Reach, Near, Far, Target, ByReg, Direct}
use Rattle.encoder.specs.Names.{Vector, Instruction, Nop, Stc, LdcReg, Ccr, Alu, IncDec, AddsSubs, Decimal, Shift, Unary, Multiply, Divide, Takes, Gives, Move, Bcc, Jmp, Bsr}
use Rattle.encoder.specs.Names.{Jsr, Rts}
use Rattle.encoder.specs.Names.{Take, Btst, Bor, Bior, Bxor, Bixor, Band, Biand, Bld, Bild, Give, Bset, Bnot, Bclr, Bst, Bist}
use Rattle.encoder.specs.Names.{Index, Numbered, ByPart, Spot, InPart, AtEr, AtAbs}

abbrev pub digit_ok : Width → ℕ → Bool
digit_ok Byte r = ltb r 16
digit_ok Word r = ltb r 16
digit_ok Long e = ltb e 8

abbrev pub number_ok : Width → ℕ → Bool
number_ok Byte v = ltb v 0x100
number_ok Word v = ltb v 0x10000
number_ok Long v = ltb v 0x100000000

abbrev pub is_byte : Width → Bool
is_byte Byte = true
is_byte Word = false
is_byte Long = false

abbrev pub not_byte : Width → Bool
not_byte Byte = false
not_byte Word = true
not_byte Long = true

abbrev pub has_reg : Op → Width → Bool
has_reg Add w = true
has_reg Sub w = true
has_reg Cmp w = true
has_reg Mov w = true
has_reg Addx w = is_byte w
has_reg Subx w = is_byte w
has_reg Or w = true
has_reg Xor w = true
has_reg And w = true

abbrev pub has_imm : Op → Width → Bool
has_imm Add w = true
has_imm Sub w = not_byte w
has_imm Cmp w = true
has_imm Mov w = true
has_imm Addx w = is_byte w
has_imm Subx w = is_byte w
has_imm Or w = true
has_imm Xor w = true
has_imm And w = true

abbrev pub has_by : Width → By → Bool
has_by w One = true
has_by w Two = not_byte w
has_by w Four = false

abbrev pub has_unary : Single → Width → Bool
has_unary Not w = true
has_unary Neg w = true
has_unary Extu w = not_byte w
has_unary Exts w = not_byte w

abbrev pub has_product : Half → ℕ → ℕ → Bool
has_product h s d = digit_ok (factor_width h) s && digit_ok (product_width h) d

abbrev pub takes_part : Take → Bool
takes_part Btst = true
takes_part Bor = false
takes_part Bior = false
takes_part Bxor = false
takes_part Bixor = false
takes_part Band = false
takes_part Biand = false
takes_part Bld = false
takes_part Bild = false

abbrev pub gives_part : Give → Bool
gives_part Bset = true
gives_part Bnot = true
gives_part Bclr = true
gives_part Bst = false
gives_part Bist = false

abbrev pub has_index : Bool → Index → Bool
has_index part (Numbered n) = ltb n 8
has_index part (ByPart r) = part && ltb r 16

abbrev pub has_spot : Spot → Bool
has_spot (InPart d) = ltb d 16
has_spot (AtEr e) = ltb e 8
has_spot (AtAbs a) = ltb a 0x100

abbrev pub has_place : Width → Place → Bool
has_place w (At e) = ltb e 8
has_place w (Step e) = ltb e 8
has_place w (Disp e d) = ltb e 8 && ltb d 0x10000
has_place w (Abs8 a) = is_byte w && ltb a 0x100
has_place w (Abs16 a) = ltb a 0x10000
has_place w (Abs24 a) = ltb a 0x1000000

abbrev pub has_reach : Reach → Bool
has_reach (Near d) = ltb d 0x100
has_reach (Far d) = ltb d 0x10000

abbrev pub has_target : Target → Bool
has_target (ByReg e) = ltb e 8
has_target (Direct a) = ltb a 0x1000000
has_target (Vector a) = ltb a 0x100

abbrev pub has_alu : Op → Width → Source → ℕ → Bool
has_alu op w (Reg s) d = has_reg op w && digit_ok w s && digit_ok w d
has_alu op w (Imm v) d = has_imm op w && number_ok w v && digit_ok w d

abbrev pub valid_of : Instruction → Bool
valid_of Nop = true
valid_of (Stc r) = ltb r 16
valid_of (LdcReg r) = ltb r 16
valid_of (Ccr change v) = ltb v 0x100
valid_of (Alu op w source d) = has_alu op w source d
valid_of (IncDec way w by r) = has_by w by && digit_ok w r
valid_of (AddsSubs way by e) = ltb e 8
valid_of (Decimal way r) = ltb r 16
valid_of (Shift turn w r) = digit_ok w r
valid_of (Unary single w r) = has_unary single w && digit_ok w r
valid_of (Multiply sign h s d) = has_product h s d
valid_of (Divide sign h s d) = has_product h s d
valid_of (Takes take index spot) = has_index (takes_part take) index && has_spot spot
valid_of (Gives give index spot) = has_index (gives_part give) index && has_spot spot
valid_of (Move dir w p r) = has_place w p && digit_ok w r
valid_of (Bcc c reach) = ltb c 16 && has_reach reach
valid_of (Jmp target) = has_target target
valid_of (Bsr reach) = has_reach reach
valid_of (Jsr target) = has_target target
valid_of Rts = true
