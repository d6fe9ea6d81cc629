-- Operands as the maker's assembler writes them: document 002, table 1.4 and section 2.2. A number is H' and its digits; an
-- address has six, an immediate as many as its size. An address is written whole, and how much of it the code holds comes
-- after the colon: so the text can be assembled again.
use Rattle.std.specs.Prelude.{ℕ, ◌+◌, true, cond, List, [], ◌∷◌, ◌++◌, ltb}
use Rattle.mnemonics.specs.Parts.{Width, Byte, Word, Long, By, Source, Reg, Imm, Dir, Load, Store, Place, At, Step, Disp, Abs8, Abs16, Abs24, Reach, Near, Far, Target, ByReg, Direct, Vector}
use Rattle.mnemonics.specs.Parts.{Index, Numbered, ByPart, Spot, InPart, AtEr, AtAbs}
use Rattle.text.specs.Lines.{ascii}
use Rattle.text.specs.Numbers.{hex_of, signed_of}
use Rattle.mnemonics.specs.Names.{numeral_of, byte_reg, long_reg, reg_of, by_of}

abbrev pub hex_by : Width → ℕ → List ℕ
hex_by Byte x = hex_of true 2 x
hex_by Word x = hex_of true 4 x
hex_by Long x = hex_of true 8 x

-- #xx:8, #xx:16, #xx:32
abbrev pub immediate_of : Width → ℕ → List ℕ
immediate_of w x = ascii "#H'" ++ hex_by w x

abbrev pub source_of : Width → Source → List ℕ
source_of w (Reg d) = reg_of w d
source_of w (Imm x) = immediate_of w x

-- INC.B and DEC.B are written without their number
abbrev pub count_of : Width → By → List ℕ
count_of Byte by = []
count_of Word by = by_of by
count_of Long by = by_of by

abbrev pub address_of : ℕ → List ℕ
address_of a = ascii "H'" ++ hex_of true 6 a

-- @ERn, @ERn+, @-ERn, @(d:16,ERn)
abbrev pub at_reg : ℕ → List ℕ
at_reg e = ascii "@" ++ long_reg e

abbrev pub up_from : ℕ → List ℕ
up_from e = at_reg e ++ ascii "+"

abbrev pub down_to : ℕ → List ℕ
down_to e = ascii "@-" ++ long_reg e

abbrev pub step_of : Dir → ℕ → List ℕ
step_of Load e = up_from e
step_of Store e = down_to e

abbrev pub disp_of : ℕ → ℕ → List ℕ
disp_of e d = ascii "@(" ++ (signed_of d ++ (ascii ":16," ++ (long_reg e ++ ascii ")")))

-- @aa:8 means FFFF00 to FFFFFF; @aa:16 is sign-extended
unfoldable pub extended : ℕ → ℕ
extended a = cond (ltb a 0x8000) a (0xFF0000 + a)

abbrev pub abs8_of : ℕ → List ℕ
abs8_of a = ascii "@" ++ (address_of (0xFFFF00 + a) ++ ascii ":8")

abbrev pub abs16_of : ℕ → List ℕ
abs16_of a = ascii "@" ++ (address_of a ++ ascii ":16")

abbrev pub abs24_of : ℕ → List ℕ
abs24_of a = ascii "@" ++ (address_of a ++ ascii ":24")

abbrev pub place_text : Dir → Place → List ℕ
place_text dir (At e) = at_reg e
place_text dir (Step e) = step_of dir e
place_text dir (Disp e d) = disp_of e d
place_text dir (Abs8 a) = abs8_of a
place_text dir (Abs16 a) = abs16_of (extended a)
place_text dir (Abs24 a) = abs24_of a

-- a bit's number: #xx:3, or a byte register
abbrev pub numbered_of : ℕ → List ℕ
numbered_of n = ascii "#" ++ (numeral_of n ∷ [])

abbrev pub index_text : Index → List ℕ
index_text (Numbered n) = numbered_of n
index_text (ByPart r) = byte_reg r

-- the byte that it is in
abbrev pub spot_text : Spot → List ℕ
spot_text (InPart d) = byte_reg d
spot_text (AtEr e) = at_reg e
spot_text (AtAbs a) = abs8_of a

-- the target of a branch, d:8 or d:16
abbrev pub reach_mark : Reach → List ℕ
reach_mark (Near d) = ascii ":8"
reach_mark (Far d) = ascii ":16"

abbrev pub reach_of : ℕ → Reach → List ℕ
reach_of to reach = address_of to ++ reach_mark reach

-- @@aa:8
abbrev pub vector_of : ℕ → List ℕ
vector_of a = ascii "@@H'" ++ (hex_of true 2 a ++ ascii ":8")

abbrev pub target_text : Target → List ℕ
target_text (ByReg e) = at_reg e
target_text (Direct a) = abs24_of a
target_text (Vector a) = vector_of a
