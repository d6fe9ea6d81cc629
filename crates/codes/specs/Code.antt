-- THE CODE LIST, document 01 "Codes": the bytes of each instruction. A table for each line of the document, in its order, with its text above it
-- and the lines of document 002 that print the codes.
-- Digits and bytes are numbers; `s · d` is the byte with the digits s and d. `none` and `[]` stand where there is no code: `Valid` leaves those out.
use Rattle.std.specs.Prelude.{ℕ, ◌+◌, ◌-◌, ◌*◌, ◌/◌, ◌%◌, List, [], ◌∷◌, length}
use Rattle.codes.specs.Names.{Width, Byte, Word, Long, Op, Add, Sub, Cmp, Mov, Addx, Subx, Or, Xor, And, Reg, Imm, Way, Up, Down, By, One, Two, Four}
use Rattle.codes.specs.Names.{Turn, Shll, Shlr, Rotxl, Rotxr, Shal, Shar, Rotl, Rotr, Single, Not, Neg, Extu, Exts, Half, Eight, Sixteen, Sign, Unsigned, Signed, Change, Orc, Xorc, Andc, Ldc}
use Rattle.codes.specs.Names.{Take, Btst, Bor, Bior, Bxor, Bixor, Band, Biand, Bld, Bild, Give, Bset, Bnot, Bclr, Bst, Bist, Index, Numbered, ByPart, Spot, InPart, AtEr, AtAbs}
use Rattle.codes.specs.Names.{Dir, Load, Store, Place, At, Step, Disp, Abs8, Abs16, Abs24, Reach, Near, Far, Target, ByReg, Direct, Vector}
use Rattle.codes.specs.Names.{Instruction, Nop, Stc, LdcReg, Ccr, Alu, IncDec, AddsSubs, Decimal, Shift, Unary, Multiply, Divide, Takes, Gives, Move, Bcc, Jmp, Bsr, Jsr, Rts}

infixl 90 ◌·◌
-- the byte of two digits
abbrev pub ◌·◌ : ℕ → ℕ → ℕ
hi · lo = hi * 16 + lo

abbrev pub none : ℕ
none = 0

-- a code of two bytes; numbers of 16, 24 and 32 bits, most significant byte first (002:2425, 2454, 2254)
abbrev pub word : ℕ → ℕ → List ℕ
word a b = a ∷ b ∷ []

abbrev pub be16 : ℕ → List ℕ
be16 v = v / 256 ∷ v % 256 ∷ []

abbrev pub be24 : ℕ → List ℕ
be24 v = v / 65536 ∷ v / 256 % 256 ∷ v % 256 ∷ []

abbrev pub be32 : ℕ → List ℕ
be32 v = v / 16777216 ∷ v / 65536 % 256 ∷ v / 256 % 256 ∷ v % 256 ∷ []

-- "NOP 0000; STC 020r; LDC 030r; ORC, XORC, ANDC, LDC immediate 04 to 07" (NOP, STC, LDC r and RTS stand in `code_of`)
-- 002:2729, 3341, 2290; 2842, 3539, 1337, 2289
abbrev pub change_code : Change → ℕ
change_code Orc = 0x04
change_code Xorc = 0x05
change_code Andc = 0x06
change_code Ldc = 0x07

-- "Register to register, rs then rd: ADD 08 byte, 09 word, 0A (8+e)e long; SUB 18, 19, 1A; CMP 1C, 1D, 1F (8+e)e; MOV 0C, 0D, 0F (8+e)e;
-- ADDX 0E, SUBX 1E; OR, XOR, AND byte 14, 15, 16; word 64, 65, 66; long 01F0 then 64, 65, 66 with two e digits"
-- 002: ADD 1202, 1219, 1236; SUB 3379, 3396, 3413; CMP 1745, 1762, 1779; MOV 2333, 2349, 2365; ADDX 1271; SUBX 3448; OR 2793, 2810, 2827;
-- XOR 3487, 3504, 3521; AND 1288, 1305, 1322
abbrev pub reg_code : Op → Width → ℕ → ℕ → List ℕ
reg_code Add Byte s d = word 0x08 (s · d)
reg_code Add Word s d = word 0x09 (s · d)
reg_code Add Long s d = word 0x0A ((8 + s) · d)
reg_code Sub Byte s d = word 0x18 (s · d)
reg_code Sub Word s d = word 0x19 (s · d)
reg_code Sub Long s d = word 0x1A ((8 + s) · d)
reg_code Cmp Byte s d = word 0x1C (s · d)
reg_code Cmp Word s d = word 0x1D (s · d)
reg_code Cmp Long s d = word 0x1F ((8 + s) · d)
reg_code Mov Byte s d = word 0x0C (s · d)
reg_code Mov Word s d = word 0x0D (s · d)
reg_code Mov Long s d = word 0x0F ((8 + s) · d)
reg_code Addx Byte s d = word 0x0E (s · d)
reg_code Addx Word s d = []
reg_code Addx Long s d = []
reg_code Subx Byte s d = word 0x1E (s · d)
reg_code Subx Word s d = []
reg_code Subx Long s d = []
reg_code Or Byte s d = word 0x14 (s · d)
reg_code Xor Byte s d = word 0x15 (s · d)
reg_code And Byte s d = word 0x16 (s · d)
reg_code Or Word s d = word 0x64 (s · d)
reg_code Xor Word s d = word 0x65 (s · d)
reg_code And Word s d = word 0x66 (s · d)
reg_code Or Long s d = 0x01 ∷ 0xF0 ∷ word 0x64 (s · d)
reg_code Xor Long s d = 0x01 ∷ 0xF0 ∷ word 0x65 (s · d)
reg_code And Long s d = 0x01 ∷ 0xF0 ∷ word 0x66 (s · d)

-- "INC.B 0A0r, DEC.B 1A0r; in 0B (up) and 1B (down): 0e, 8e, 9e are ADDS or SUBS by 1, 2, 4; 5r, Dr word by 1, 2; 7e, Fe long by 1, 2.
-- DAA 0F0r, DAS 1F0r"
-- 002: INC 2207, 2221-2222, 2236-2237; DEC 1855, 1869-1870, 1885-1886; ADDS 1252-1254; SUBS 3429-3431; DAA 1814; DAS 1839
abbrev pub way_digit : Way → ℕ
way_digit Up = 0
way_digit Down = 1

abbrev pub adds_digit : By → ℕ
adds_digit One = 0x0
adds_digit Two = 0x8
adds_digit Four = 0x9

abbrev pub word_digit : By → ℕ
word_digit One = 0x5
word_digit Two = 0xD
word_digit Four = none

abbrev pub long_digit : By → ℕ
long_digit One = 0x7
long_digit Two = 0xF
long_digit Four = none

abbrev pub inc_dec_code : Way → Width → By → ℕ → List ℕ
inc_dec_code way Byte by r = word (way_digit way · 0xA) (0 · r)
inc_dec_code way Word by r = word (way_digit way · 0xB) (word_digit by · r)
inc_dec_code way Long by r = word (way_digit way · 0xB) (long_digit by · r)

abbrev pub adds_subs_code : Way → By → ℕ → List ℕ
adds_subs_code way by e = word (way_digit way · 0xB) (adds_digit by · e)

abbrev pub decimal_code : Way → ℕ → List ℕ
decimal_code way r = word (way_digit way · 0xF) (0 · r)

-- "Shifts 10 to 13, upper digit of the second byte 0, 1, 3 for byte, word, long: SHLL, SHLR, ROTXL, ROTXR; digit 8, 9, B: SHAL, SHAR, ROTL,
-- ROTR. 17: 0, 1, 3 NOT; 8, 9, B NEG; 5r, 7e EXTU; Dr, Fe EXTS"
-- 002: SHLL 3233-3263, SHLR 3279-3311, ROTXL 3016-3049, ROTXR 3065-3097, SHAL 3141-3169, SHAR 3185-3217, ROTL 2922-2953, ROTR 2967-3000;
-- NOT 2745-2778, NEG 2681-2714, EXTU 2178-2192, EXTS 2146-2162
abbrev pub digit013 : Width → ℕ
digit013 Byte = 0x0
digit013 Word = 0x1
digit013 Long = 0x3

abbrev pub digit89_b : Width → ℕ
digit89_b Byte = 0x8
digit89_b Word = 0x9
digit89_b Long = 0xB

abbrev pub shift_code : Turn → Width → ℕ → List ℕ
shift_code Shll w r = word 0x10 (digit013 w · r)
shift_code Shlr w r = word 0x11 (digit013 w · r)
shift_code Rotxl w r = word 0x12 (digit013 w · r)
shift_code Rotxr w r = word 0x13 (digit013 w · r)
shift_code Shal w r = word 0x10 (digit89_b w · r)
shift_code Shar w r = word 0x11 (digit89_b w · r)
shift_code Rotl w r = word 0x12 (digit89_b w · r)
shift_code Rotr w r = word 0x13 (digit89_b w · r)

abbrev pub extu_digit : Width → ℕ
extu_digit Byte = none
extu_digit Word = 0x5
extu_digit Long = 0x7

abbrev pub exts_digit : Width → ℕ
exts_digit Byte = none
exts_digit Word = 0xD
exts_digit Long = 0xF

abbrev pub unary_code : Single → Width → ℕ → List ℕ
unary_code Not w r = word 0x17 (digit013 w · r)
unary_code Neg w r = word 0x17 (digit89_b w · r)
unary_code Extu w r = word 0x17 (extu_digit w · r)
unary_code Exts w r = word 0x17 (exts_digit w · r)

-- document 02, W1: MULXU 50rr byte, 52re word; DIVXU 51rr, 53re; MULXS 01C0 before the MULXU code, DIVXS 01D0 before the DIVXU code
-- 002: MULXU 2647, 2665; DIVXU 2017, 2038; MULXS 2607, 2627; DIVXS 1908, 1924
abbrev pub unsigned_multiply : Half → ℕ
unsigned_multiply Eight = 0x50
unsigned_multiply Sixteen = 0x52

abbrev pub unsigned_divide : Half → ℕ
unsigned_divide Eight = 0x51
unsigned_divide Sixteen = 0x53

-- the signed instruction's code is the unsigned one's behind 01 and a second byte
abbrev pub product_code : Sign → ℕ → ℕ → ℕ → ℕ → List ℕ
product_code Unsigned second first s d = word first (s · d)
product_code Signed second first s d = 0x01 ∷ second ∷ word first (s · d)

-- document 02, W4: the bit instructions. A byte register: the byte below, then the bit's number, 8 added for the inverted ones, and rd. @ER: 7C e0
-- before that for one that reads, 7D e0 for one that writes; aa:8: 7E, 7F; rd is then 0. By a register's number BTST, BSET, BNOT, BCLR: 10 less.
-- 002: BTST 1698-1703; BOR 1602, BIOR 1506; BXOR 1725, BIXOR 1542; BAND 1353, BIAND 1468; BLD 1561, BILD 1487; BSET 1621-1626; BNOT 1580-1585;
-- BCLR 1446-1451; BST 1665, BIST 1525
abbrev pub take_byte : Take → ℕ
take_byte Btst = 0x73
take_byte Bor = 0x74
take_byte Bior = 0x74
take_byte Bxor = 0x75
take_byte Bixor = 0x75
take_byte Band = 0x76
take_byte Biand = 0x76
take_byte Bld = 0x77
take_byte Bild = 0x77

abbrev pub take_side : Take → ℕ
take_side Btst = 0
take_side Bor = 0
take_side Bior = 8
take_side Bxor = 0
take_side Bixor = 8
take_side Band = 0
take_side Biand = 8
take_side Bld = 0
take_side Bild = 8

abbrev pub give_byte : Give → ℕ
give_byte Bset = 0x70
give_byte Bnot = 0x71
give_byte Bclr = 0x72
give_byte Bst = 0x67
give_byte Bist = 0x67

abbrev pub give_side : Give → ℕ
give_side Bset = 0
give_side Bnot = 0
give_side Bclr = 0
give_side Bst = 0
give_side Bist = 8

-- the word `byte`, `digit` and rd, or that word behind the one that names the byte in memory
abbrev pub spot_code : ℕ → Spot → ℕ → ℕ → List ℕ
spot_code lead (InPart d) byte digit = word byte (digit · d)
spot_code lead (AtEr e) byte digit = lead ∷ e · 0 ∷ word byte (digit · 0)
spot_code lead (AtAbs a) byte digit = (lead + 2) ∷ a ∷ word byte (digit · 0)

abbrev pub bit_code : ℕ → Spot → Index → ℕ → ℕ → List ℕ
bit_code lead spot (Numbered n) byte side = spot_code lead spot byte (side + n)
bit_code lead spot (ByPart r) byte side = spot_code lead spot (byte - 0x10) r

-- "Immediate byte, first digit 8 to F: ADD, ADDX, CMP, SUBX, OR, XOR, AND, MOV. 79 word and 7A long, next digit 0 to 6: MOV, ADD, CMP, SUB, OR,
-- XOR, AND"
-- 002: byte 1201, 1270, 1744, 3447, 2792, 3486, 1287, 2390; word 2425, 1218, 1761, 3395, 2809, 3503, 1304; long 2454, 1235, 1778, 3412, 2826,
-- 3520, 1321
abbrev pub first_digit : Op → ℕ
first_digit Add = 0x8
first_digit Addx = 0x9
first_digit Cmp = 0xA
first_digit Subx = 0xB
first_digit Or = 0xC
first_digit Xor = 0xD
first_digit And = 0xE
first_digit Mov = 0xF
first_digit Sub = none

abbrev pub next_digit : Op → ℕ
next_digit Mov = 0x0
next_digit Add = 0x1
next_digit Cmp = 0x2
next_digit Sub = 0x3
next_digit Or = 0x4
next_digit Xor = 0x5
next_digit And = 0x6
next_digit Addx = none
next_digit Subx = none

abbrev pub imm_code : Op → Width → ℕ → ℕ → List ℕ
imm_code op Byte v d = word (first_digit op · d) v
imm_code op Word v d = 0x79 ∷ next_digit op · d ∷ be16 v
imm_code op Long v d = 0x7A ∷ next_digit op · d ∷ be32 v

-- "MOV with memory; a load has 0 where a store has 8 added to the second byte's upper digit. Byte: @ER 68, aa:8 2r load and 3r store, @ER+ and
-- @-ER 6C, d:16 6E, aa:16 6A0r, aa:24 6A2r 00. Word: 69, 6D, 6F, 6B0r, 6B2r 00. Long: 0100 before the word code"
-- 002: loads 2390-2394, 4058-4060, 2426-2431, 2455-2460; stores 2484-2489, 4061, 2510-2515, 2538-2544; the 00 of aa:24 844
abbrev pub dir_digit : Dir → ℕ
dir_digit Load = 0
dir_digit Store = 8

abbrev pub abs8_digit : Dir → ℕ
abs8_digit Load = 2
abs8_digit Store = 3

abbrev pub move_byte : Dir → Place → ℕ → List ℕ
move_byte dir (At e) r = word 0x68 ((dir_digit dir + e) · r)
move_byte dir (Abs8 a) r = word (abs8_digit dir · r) a
move_byte dir (Step e) r = word 0x6C ((dir_digit dir + e) · r)
move_byte dir (Disp e d) r = 0x6E ∷ (dir_digit dir + e) · r ∷ be16 d
move_byte dir (Abs16 a) r = 0x6A ∷ (dir_digit dir + 0) · r ∷ be16 a
move_byte dir (Abs24 a) r = 0x6A ∷ (dir_digit dir + 2) · r ∷ 0x00 ∷ be24 a

abbrev pub move_word : Dir → Place → ℕ → List ℕ
move_word dir (At e) r = word 0x69 ((dir_digit dir + e) · r)
move_word dir (Abs8 a) r = []
move_word dir (Step e) r = word 0x6D ((dir_digit dir + e) · r)
move_word dir (Disp e d) r = 0x6F ∷ (dir_digit dir + e) · r ∷ be16 d
move_word dir (Abs16 a) r = 0x6B ∷ (dir_digit dir + 0) · r ∷ be16 a
move_word dir (Abs24 a) r = 0x6B ∷ (dir_digit dir + 2) · r ∷ 0x00 ∷ be24 a

abbrev pub move_code : Dir → Width → Place → ℕ → List ℕ
move_code dir Byte p r = move_byte dir p r
move_code dir Word p r = move_word dir p r
move_code dir Long p r = 0x01 ∷ 0x00 ∷ move_word dir p r

-- "Bcc: 4c d:8, 58c0 d:16. JMP 59e0, 5A aa:24, 5B @@aa:8. BSR 55, 5C00. JSR 5De0, 5E, 5F. RTS 5470"
-- 002: Bcc 1397-1428; JMP 2253-2255; BSR 1646-1647; JSR 2270-2272; RTS 3124
abbrev pub bcc_code : ℕ → Reach → List ℕ
bcc_code c (Near d) = word (4 · c) d
bcc_code c (Far d) = 0x58 ∷ c · 0 ∷ be16 d

abbrev pub jmp_code : Target → List ℕ
jmp_code (ByReg e) = word 0x59 (e · 0)
jmp_code (Direct a) = 0x5A ∷ be24 a
jmp_code (Vector a) = word 0x5B a

abbrev pub bsr_code : Reach → List ℕ
bsr_code (Near d) = word 0x55 d
bsr_code (Far d) = 0x5C ∷ 0x00 ∷ be16 d

abbrev pub jsr_code : Target → List ℕ
jsr_code (ByReg e) = word 0x5D (e · 0)
jsr_code (Direct a) = 0x5E ∷ be24 a
jsr_code (Vector a) = word 0x5F a

-- the bytes of an instruction
abbrev pub code_of : Instruction → List ℕ
code_of Nop = word 0x00 0x00
code_of (Stc r) = word 0x02 (0 · r)
code_of (LdcReg r) = word 0x03 (0 · r)
code_of (Ccr change v) = word (change_code change) v
code_of (Alu op w (Reg s) d) = reg_code op w s d
code_of (IncDec way w by r) = inc_dec_code way w by r
code_of (AddsSubs way by e) = adds_subs_code way by e
code_of (Decimal way r) = decimal_code way r
code_of (Shift turn w r) = shift_code turn w r
code_of (Unary single w r) = unary_code single w r
code_of (Multiply sign h s d) = product_code sign 0xC0 (unsigned_multiply h) s d
code_of (Divide sign h s d) = product_code sign 0xD0 (unsigned_divide h) s d
code_of (Takes take index spot) = bit_code 0x7C spot index (take_byte take) (take_side take)
code_of (Gives give index spot) = bit_code 0x7D spot index (give_byte give) (give_side give)
code_of (Alu op w (Imm v) d) = imm_code op w v d
code_of (Move dir w p r) = move_code dir w p r
code_of (Bcc c reach) = bcc_code c reach
code_of (Jmp target) = jmp_code target
code_of (Bsr reach) = bsr_code reach
code_of (Jsr target) = jsr_code target
code_of Rts = word 0x54 0x70

abbrev pub length_of : Instruction → ℕ
length_of i = length (code_of i)
