-- The parts of a code, case by case as the code of `src/parts.rt` does. Nothing here is to be believed: `proofs/` shows that they are `code_of`.
use Rattle.std.specs.Prelude.{ℕ, ◌+◌, ◌-◌, ◌/◌, ◌%◌, Option, Some, None}
use Rattle.encoder.specs.Names.{Width, Byte, Word, Long, Op, Add, Sub, Cmp, Mov, Addx, Subx, Or, Xor, And, Source, Reg, Imm, Way, By, Turn, Shll}
use Rattle.encoder.specs.Names.{Shlr, Rotxl, Rotxr, Shal, Shar, Rotl, Rotr, Single, Not, Neg, Extu, Exts, Sign, Unsigned, Signed, Dir, Place, At, Step, Disp, Abs8}
use Rattle.encoder.specs.Names.{Abs16, Abs24, Reach, Near, Far, Target, ByReg, Direct, Vector, Instruction, Nop, Stc, LdcReg, Ccr, Alu, IncDec}
use Rattle.encoder.specs.Names.{AddsSubs, Decimal, Shift, Unary, Multiply, Divide, Takes, Gives, Move, Bcc, Jmp, Bsr, Jsr, Rts, Tail, Bits16}
use Rattle.encoder.specs.Names.{Bits32, Parts, Index, Numbered, ByPart, Spot, InPart, AtEr, AtAbs}
use Rattle.codes.specs.Code.{◌·◌, change_code, way_digit, adds_digit, word_digit, long_digit, digit013, digit89_b, extu_digit, exts_digit, unsigned_multiply, unsigned_divide, first_digit}
use Rattle.codes.specs.Code.{next_digit, dir_digit, abs8_digit, take_byte, take_side, give_byte, give_side}

abbrev pub mk : Option (ℕ × ℕ) → ℕ → ℕ → Option Tail → Parts
mk prefix a b tail = record { prefix = prefix; a = a; b = b; tail = tail }

abbrev pub mk1 : ℕ → ℕ → Parts
mk1 a b = mk None a b None

abbrev pub mk2 : ℕ → ℕ → ℕ → ℕ → Parts
mk2 x y a b = mk (Some (x, y)) a b None

abbrev pub byte_code : Op → ℕ
byte_code Add = 0x08
byte_code Sub = 0x18
byte_code Cmp = 0x1C
byte_code Mov = 0x0C
byte_code Addx = 0x0E
byte_code Subx = 0x1E
byte_code Or = 0x14
byte_code Xor = 0x15
byte_code And = 0x16

abbrev pub word_code : Op → ℕ
word_code Add = 0x09
word_code Sub = 0x19
word_code Cmp = 0x1D
word_code Mov = 0x0D
word_code Addx = 0
word_code Subx = 0
word_code Or = 0x64
word_code Xor = 0x65
word_code And = 0x66

abbrev pub long_parts : Op → ℕ → ℕ → Parts
long_parts Add s d = mk1 0x0A ((8 + s) · d)
long_parts Sub s d = mk1 0x1A ((8 + s) · d)
long_parts Cmp s d = mk1 0x1F ((8 + s) · d)
long_parts Mov s d = mk1 0x0F ((8 + s) · d)
long_parts Addx s d = mk1 0 0
long_parts Subx s d = mk1 0 0
long_parts Or s d = mk2 0x01 0xF0 0x64 (s · d)
long_parts Xor s d = mk2 0x01 0xF0 0x65 (s · d)
long_parts And s d = mk2 0x01 0xF0 0x66 (s · d)

abbrev pub reg_parts : Op → Width → ℕ → ℕ → Parts
reg_parts op Byte s d = mk1 (byte_code op) (s · d)
reg_parts op Word s d = mk1 (word_code op) (s · d)
reg_parts op Long s d = long_parts op s d

abbrev pub imm_parts : Op → Width → ℕ → ℕ → Parts
imm_parts op Byte v d = mk1 (first_digit op · d) v
imm_parts op Word v d = mk None 0x79 (next_digit op · d) (Some (Bits16 v))
imm_parts op Long v d = mk None 0x7A (next_digit op · d) (Some (Bits32 v))

abbrev pub alu_parts : Op → Width → Source → ℕ → Parts
alu_parts op w (Reg s) d = reg_parts op w s d
alu_parts op w (Imm v) d = imm_parts op w v d

abbrev pub inc_dec_parts : Way → Width → By → ℕ → Parts
inc_dec_parts way Byte by r = mk1 (way_digit way · 0xA) (0 · r)
inc_dec_parts way Word by r = mk1 (way_digit way · 0xB) (word_digit by · r)
inc_dec_parts way Long by r = mk1 (way_digit way · 0xB) (long_digit by · r)

abbrev pub shift_parts : Turn → Width → ℕ → Parts
shift_parts Shll w r = mk1 0x10 (digit013 w · r)
shift_parts Shlr w r = mk1 0x11 (digit013 w · r)
shift_parts Rotxl w r = mk1 0x12 (digit013 w · r)
shift_parts Rotxr w r = mk1 0x13 (digit013 w · r)
shift_parts Shal w r = mk1 0x10 (digit89_b w · r)
shift_parts Shar w r = mk1 0x11 (digit89_b w · r)
shift_parts Rotl w r = mk1 0x12 (digit89_b w · r)
shift_parts Rotr w r = mk1 0x13 (digit89_b w · r)

abbrev pub unary_parts : Single → Width → ℕ → Parts
unary_parts Not w r = mk1 0x17 (digit013 w · r)
unary_parts Neg w r = mk1 0x17 (digit89_b w · r)
unary_parts Extu w r = mk1 0x17 (extu_digit w · r)
unary_parts Exts w r = mk1 0x17 (exts_digit w · r)

abbrev pub product_parts : Sign → ℕ → ℕ → ℕ → Parts
product_parts Unsigned c a b = mk1 a b
product_parts Signed c a b = mk2 0x01 c a b

abbrev pub spot_parts : ℕ → Spot → ℕ → ℕ → ℕ → Parts
spot_parts lead (InPart d) byte side digit = mk1 byte ((side + digit) · d)
spot_parts lead (AtEr e) byte side digit = mk2 lead (e · 0) byte ((side + digit) · 0)
spot_parts lead (AtAbs a) byte side digit = mk2 (lead + 2) a byte ((side + digit) · 0)

abbrev pub bit_parts : ℕ → Spot → Index → ℕ → ℕ → Parts
bit_parts lead spot (Numbered n) byte side = spot_parts lead spot byte side n
bit_parts lead spot (ByPart r) byte side = spot_parts lead spot (byte - 0x10) 0 r

abbrev pub place_parts : Option (ℕ × ℕ) → ℕ → Dir → Place → ℕ → Parts
place_parts prefix more dir (At e) r = mk prefix (0x68 + more) ((dir_digit dir + e) · r) None
place_parts prefix more dir (Abs8 a) r = mk prefix (abs8_digit dir · r) a None
place_parts prefix more dir (Step e) r = mk prefix (0x6C + more) ((dir_digit dir + e) · r) None
place_parts prefix more dir (Disp e d) r = mk prefix (0x6E + more) ((dir_digit dir + e) · r) (Some (Bits16 d))
place_parts prefix more dir (Abs16 a) r = mk prefix (0x6A + more) ((dir_digit dir + 0) · r) (Some (Bits16 a))
place_parts prefix more dir (Abs24 a) r = mk prefix (0x6A + more) ((dir_digit dir + 2) · r) (Some (Bits32 a))

abbrev pub move_parts : Dir → Width → Place → ℕ → Parts
move_parts dir Byte p r = place_parts None 0 dir p r
move_parts dir Word p r = place_parts None 1 dir p r
move_parts dir Long p r = place_parts (Some (0x01, 0x00)) 1 dir p r

abbrev pub bcc_parts : ℕ → Reach → Parts
bcc_parts c (Near d) = mk1 (4 · c) d
bcc_parts c (Far d) = mk None 0x58 (c · 0) (Some (Bits16 d))

abbrev pub target_parts : ℕ → Target → Parts
target_parts more (ByReg e) = mk1 (0x59 + more) (e · 0)
target_parts more (Direct a) = mk None (0x5A + more) (a / 65536) (Some (Bits16 (a % 65536)))
target_parts more (Vector a) = mk1 (0x5B + more) a

abbrev pub bsr_parts : Reach → Parts
bsr_parts (Near d) = mk1 0x55 d
bsr_parts (Far d) = mk None 0x5C 0x00 (Some (Bits16 d))

abbrev pub parts_of : Instruction → Parts
parts_of Nop = mk1 0x00 0x00
parts_of (Stc r) = mk1 0x02 (0 · r)
parts_of (LdcReg r) = mk1 0x03 (0 · r)
parts_of (Ccr change v) = mk1 (change_code change) v
parts_of (Alu op w source d) = alu_parts op w source d
parts_of (IncDec way w by r) = inc_dec_parts way w by r
parts_of (AddsSubs way by e) = mk1 (way_digit way · 0xB) (adds_digit by · e)
parts_of (Decimal way r) = mk1 (way_digit way · 0xF) (0 · r)
parts_of (Shift turn w r) = shift_parts turn w r
parts_of (Unary single w r) = unary_parts single w r
parts_of (Multiply sign h s d) = product_parts sign 0xC0 (unsigned_multiply h) (s · d)
parts_of (Divide sign h s d) = product_parts sign 0xD0 (unsigned_divide h) (s · d)
parts_of (Takes take index spot) = bit_parts 0x7C spot index (take_byte take) (take_side take)
parts_of (Gives give index spot) = bit_parts 0x7D spot index (give_byte give) (give_side give)
parts_of (Move dir w p r) = move_parts dir w p r
parts_of (Bcc c reach) = bcc_parts c reach
parts_of (Jmp target) = target_parts 0 target
parts_of (Bsr reach) = bsr_parts reach
parts_of (Jsr target) = target_parts 4 target
parts_of Rts = mk1 0x54 0x70
