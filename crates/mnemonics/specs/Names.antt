-- What the maker's assembler calls instructions and registers: document 002, section 2.2, the assembler format of each page.
use Rattle.std.specs.Prelude.{ℕ, ◌+◌, ◌%◌, cond, List, [], ◌∷◌, ◌++◌, ltb, get_or}
use Prim.Native.Char.{code}
use Rattle.mnemonics.specs.Parts.{Sign, Unsigned, Signed, Width, Byte, Word, Long, Op, Add, Sub, Cmp, Mov, Addx, Subx, Or, Xor, And, Way, Up, Down, By, One, Two, Four, Turn, Shll, Shlr, Rotxl, Rotxr, Shal, Shar, Rotl, Rotr, Single, Not, Neg, Extu, Exts, Change, Orc, Xorc, Andc, Ldc}
use Rattle.mnemonics.specs.Parts.{Take, Btst, Bor, Bior, Bxor, Bixor, Band, Biand, Bld, Bild, Give, Bset, Bnot, Bclr, Bst, Bist}
use Rattle.text.specs.Lines.{ascii}

-- a byte register is RnH or RnL, a word register Rn or En, a long register ERn (002:1147-1164)
abbrev pub numeral_of : ℕ → ℕ
numeral_of d = code "0" + d % 8

unfoldable pub half_of : ℕ → ℕ
half_of d = cond (ltb (d % 16) 8) (code "H") (code "L")

unfoldable pub letter_of_word : ℕ → ℕ
letter_of_word d = cond (ltb (d % 16) 8) (code "R") (code "E")

abbrev pub byte_reg : ℕ → List ℕ
byte_reg d = code "R" ∷ numeral_of d ∷ half_of d ∷ []

abbrev pub word_reg : ℕ → List ℕ
word_reg d = letter_of_word d ∷ numeral_of d ∷ []

abbrev pub long_reg : ℕ → List ℕ
long_reg d = ascii "ER" ++ (numeral_of d ∷ [])

abbrev pub reg_of : Width → ℕ → List ℕ
reg_of Byte d = byte_reg d
reg_of Word d = word_reg d
reg_of Long d = long_reg d

abbrev pub mark_of : Width → List ℕ
mark_of Byte = ascii ".B"
mark_of Word = ascii ".W"
mark_of Long = ascii ".L"

abbrev pub op_name : Op → List ℕ
op_name Add = ascii "ADD"
op_name Sub = ascii "SUB"
op_name Cmp = ascii "CMP"
op_name Mov = ascii "MOV"
op_name Addx = ascii "ADDX"
op_name Subx = ascii "SUBX"
op_name Or = ascii "OR"
op_name Xor = ascii "XOR"
op_name And = ascii "AND"

-- ADDX and SUBX are written without a size (002:1263, 3440)
abbrev pub op_mark : Op → Width → List ℕ
op_mark Add w = mark_of w
op_mark Sub w = mark_of w
op_mark Cmp w = mark_of w
op_mark Mov w = mark_of w
op_mark Addx w = []
op_mark Subx w = []
op_mark Or w = mark_of w
op_mark Xor w = mark_of w
op_mark And w = mark_of w

abbrev pub way_name : Way → List ℕ
way_name Up = ascii "INC"
way_name Down = ascii "DEC"

-- 002: MULXU 2647, MULXS 2607, DIVXU 2017, DIVXS 1908
abbrev pub multiply_name : Sign → List ℕ
multiply_name Unsigned = ascii "MULXU"
multiply_name Signed = ascii "MULXS"

abbrev pub divide_name : Sign → List ℕ
divide_name Unsigned = ascii "DIVXU"
divide_name Signed = ascii "DIVXS"

-- the bit instructions are written without a size (002: BTST 1698, BOR 1602, BIOR 1506, BXOR 1725, BIXOR 1542, BAND 1353, BIAND 1468, BLD 1561,
-- BILD 1487; BSET 1621, BNOT 1580, BCLR 1446, BST 1665, BIST 1525)
abbrev pub take_name : Take → List ℕ
take_name Btst = ascii "BTST "
take_name Bor = ascii "BOR "
take_name Bior = ascii "BIOR "
take_name Bxor = ascii "BXOR "
take_name Bixor = ascii "BIXOR "
take_name Band = ascii "BAND "
take_name Biand = ascii "BIAND "
take_name Bld = ascii "BLD "
take_name Bild = ascii "BILD "

abbrev pub give_name : Give → List ℕ
give_name Bset = ascii "BSET "
give_name Bnot = ascii "BNOT "
give_name Bclr = ascii "BCLR "
give_name Bst = ascii "BST "
give_name Bist = ascii "BIST "

abbrev pub adds_name : Way → List ℕ
adds_name Up = ascii "ADDS "
adds_name Down = ascii "SUBS "

abbrev pub decimal_name : Way → List ℕ
decimal_name Up = ascii "DAA "
decimal_name Down = ascii "DAS "

abbrev pub turn_name : Turn → List ℕ
turn_name Shll = ascii "SHLL"
turn_name Shlr = ascii "SHLR"
turn_name Rotxl = ascii "ROTXL"
turn_name Rotxr = ascii "ROTXR"
turn_name Shal = ascii "SHAL"
turn_name Shar = ascii "SHAR"
turn_name Rotl = ascii "ROTL"
turn_name Rotr = ascii "ROTR"

abbrev pub single_name : Single → List ℕ
single_name Not = ascii "NOT"
single_name Neg = ascii "NEG"
single_name Extu = ascii "EXTU"
single_name Exts = ascii "EXTS"

abbrev pub change_name : Change → List ℕ
change_name Orc = ascii "ORC "
change_name Xorc = ascii "XORC "
change_name Andc = ascii "ANDC "
change_name Ldc = ascii "LDC.B "

abbrev pub by_of : By → List ℕ
by_of One = ascii "#1,"
by_of Two = ascii "#2,"
by_of Four = ascii "#4,"

-- by the digit of the condition, 0 to 15 (002:1376-1391)
abbrev pub branch_names : List (List ℕ)
branch_names =
    ascii "BRA" ∷ ascii "BRN" ∷ ascii "BHI" ∷ ascii "BLS" ∷ ascii "BCC" ∷ ascii "BCS" ∷ ascii "BNE" ∷ ascii "BEQ"
    ∷ ascii "BVC" ∷ ascii "BVS" ∷ ascii "BPL" ∷ ascii "BMI" ∷ ascii "BGE" ∷ ascii "BLT" ∷ ascii "BGT" ∷ ascii "BLE" ∷ []

unfoldable pub branch_name : ℕ → List ℕ
branch_name c = get_or branch_names (c % 16) []
