-- The code list and the states, tried on whole codes: the codes of document 01's marked examples (0889, 0E89, 0F09, 1C89, 6910, 6D80, 4702, 0B50,
-- 5470, 40FE) and some of every line of its list. One statement over a list of rows: an instruction, its bytes, its states.
use Prim.Native.Nat.{ℕ}
use mathlib.Core.Path.{◌≡◌, refl}
use mathlib.Core.List.{List, [], ◌∷◌, map}
use Rattle.codes.specs.Names.{Byte, Word, Long, Add, Sub, Cmp, Mov, Addx, Or, Reg, Imm, Up, Down, One, Two, Four, Shal, Rotxr, Not, Exts, Eight, Sixteen, Unsigned, Signed, Orc}
use Rattle.codes.specs.Names.{Btst, Bior, Bld, Bset, Bnot, Bist, Numbered, ByPart, InPart, AtEr, AtAbs}
use Rattle.codes.specs.Names.{Load, Store, At, Step, Disp, Abs8, Abs24, Near, Far, ByReg, Direct, Vector}
use Rattle.codes.specs.Names.{Instruction, Nop, Stc, LdcReg, Ccr, Alu, IncDec, AddsSubs, Decimal, Shift, Unary, Multiply, Divide, Takes, Gives, Move, Bcc, Jmp, Bsr, Jsr, Rts}
use Rattle.codes.specs.Code.{code_of}
use Rattle.codes.specs.States.{states_of}

abbrev Row : Type 0
Row = Instruction × List ℕ × ℕ

abbrev rows : List Row
rows =
    (Nop, 0x00 ∷ 0x00 ∷ [], 2)
    ∷ (Stc 9, 0x02 ∷ 0x09 ∷ [], 2)
    ∷ (LdcReg 9, 0x03 ∷ 0x09 ∷ [], 2)
    ∷ (Ccr Orc 0x80, 0x04 ∷ 0x80 ∷ [], 2)
    ∷ (Alu Add Byte (Reg 8) 9, 0x08 ∷ 0x89 ∷ [], 2)
    ∷ (Alu Addx Byte (Reg 8) 9, 0x0E ∷ 0x89 ∷ [], 2)
    ∷ (Alu Cmp Byte (Reg 8) 9, 0x1C ∷ 0x89 ∷ [], 2)
    ∷ (Alu Mov Long (Reg 1) 2, 0x0F ∷ 0x92 ∷ [], 2)
    ∷ (Alu Or Long (Reg 1) 2, 0x01 ∷ 0xF0 ∷ 0x64 ∷ 0x12 ∷ [], 4)
    ∷ (IncDec Up Byte One 9, 0x0A ∷ 0x09 ∷ [], 2)
    ∷ (IncDec Up Word One 0, 0x0B ∷ 0x50 ∷ [], 2)
    ∷ (IncDec Down Long Two 3, 0x1B ∷ 0xF3 ∷ [], 2)
    ∷ (AddsSubs Up Four 7, 0x0B ∷ 0x97 ∷ [], 2)
    ∷ (Decimal Up 9, 0x0F ∷ 0x09 ∷ [], 2)
    ∷ (Shift Shal Long 1, 0x10 ∷ 0xB1 ∷ [], 2)
    ∷ (Shift Rotxr Word 0xA, 0x13 ∷ 0x1A ∷ [], 2)
    ∷ (Unary Not Long 1, 0x17 ∷ 0x31 ∷ [], 2)
    ∷ (Unary Exts Word 1, 0x17 ∷ 0xD1 ∷ [], 2)
    ∷ (Multiply Unsigned Eight 8 9, 0x50 ∷ 0x89 ∷ [], 14)
    ∷ (Divide Unsigned Sixteen 8 7, 0x53 ∷ 0x87 ∷ [], 22)
    ∷ (Multiply Signed Sixteen 8 7, 0x01 ∷ 0xC0 ∷ 0x52 ∷ 0x87 ∷ [], 24)
    ∷ (Divide Signed Eight 8 9, 0x01 ∷ 0xD0 ∷ 0x51 ∷ 0x89 ∷ [], 16)
    ∷ (Takes Btst (Numbered 7) (InPart 8), 0x73 ∷ 0x78 ∷ [], 2)
    ∷ (Takes Btst (ByPart 8) (AtEr 1), 0x7C ∷ 0x10 ∷ 0x63 ∷ 0x80 ∷ [], 6)
    ∷ (Takes Bior (Numbered 3) (AtAbs 0x40), 0x7E ∷ 0x40 ∷ 0x74 ∷ 0xB0 ∷ [], 6)
    ∷ (Takes Bld (Numbered 0) (InPart 9), 0x77 ∷ 0x09 ∷ [], 2)
    ∷ (Gives Bset (Numbered 3) (AtEr 1), 0x7D ∷ 0x10 ∷ 0x70 ∷ 0x30 ∷ [], 8)
    ∷ (Gives Bnot (ByPart 8) (InPart 9), 0x61 ∷ 0x89 ∷ [], 2)
    ∷ (Gives Bist (Numbered 7) (AtAbs 0xFF), 0x7F ∷ 0xFF ∷ 0x67 ∷ 0xF0 ∷ [], 8)
    ∷ (Alu Cmp Byte (Imm 0xFF) 8, 0xA8 ∷ 0xFF ∷ [], 2)
    ∷ (Alu Sub Word (Imm 0x1234) 1, 0x79 ∷ 0x31 ∷ 0x12 ∷ 0x34 ∷ [], 4)
    ∷ (Alu Mov Long (Imm 0x12345678) 7, 0x7A ∷ 0x07 ∷ 0x12 ∷ 0x34 ∷ 0x56 ∷ 0x78 ∷ [], 6)
    ∷ (Move Load Word (At 1) 0, 0x69 ∷ 0x10 ∷ [], 4)
    ∷ (Move Store Word (Step 0) 0, 0x6D ∷ 0x80 ∷ [], 6)
    ∷ (Move Load Byte (Abs8 0x10) 8, 0x28 ∷ 0x10 ∷ [], 4)
    ∷ (Move Store Byte (Abs24 0x123456) 8, 0x6A ∷ 0xA8 ∷ 0x00 ∷ 0x12 ∷ 0x34 ∷ 0x56 ∷ [], 8)
    ∷ (Move Store Long (Step 1) 3, 0x01 ∷ 0x00 ∷ 0x6D ∷ 0x93 ∷ [], 10)
    ∷ (Move Load Long (Disp 1 0xFFFE) 2, 0x01 ∷ 0x00 ∷ 0x6F ∷ 0x12 ∷ 0xFF ∷ 0xFE ∷ [], 10)
    ∷ (Move Load Long (Abs24 0x123456) 7, 0x01 ∷ 0x00 ∷ 0x6B ∷ 0x27 ∷ 0x00 ∷ 0x12 ∷ 0x34 ∷ 0x56 ∷ [], 12)
    ∷ (Bcc 0 (Near 0xFE), 0x40 ∷ 0xFE ∷ [], 4)
    ∷ (Bcc 7 (Near 2), 0x47 ∷ 0x02 ∷ [], 4)
    ∷ (Bcc 7 (Far 2), 0x58 ∷ 0x70 ∷ 0x00 ∷ 0x02 ∷ [], 6)
    ∷ (Jmp (ByReg 1), 0x59 ∷ 0x10 ∷ [], 4)
    ∷ (Jmp (Direct 0x123456), 0x5A ∷ 0x12 ∷ 0x34 ∷ 0x56 ∷ [], 6)
    ∷ (Jmp (Vector 0x10), 0x5B ∷ 0x10 ∷ [], 10)
    ∷ (Bsr (Near 0xFE), 0x55 ∷ 0xFE ∷ [], 8)
    ∷ (Bsr (Far 0xFFFE), 0x5C ∷ 0x00 ∷ 0xFF ∷ 0xFE ∷ [], 10)
    ∷ (Jsr (ByReg 7), 0x5D ∷ 0x70 ∷ [], 8)
    ∷ (Jsr (Direct 0x123456), 0x5E ∷ 0x12 ∷ 0x34 ∷ 0x56 ∷ [], 10)
    ∷ (Jsr (Vector 0x10), 0x5F ∷ 0x10 ∷ [], 12)
    ∷ (Rts, 0x54 ∷ 0x70 ∷ [], 10)
    ∷ []

-- what the list says of a row's instruction
said : Row → Row
said r = (r.0, code_of r.0, states_of r.0)

right : map said rows ≡ rows
unfolding said
right = refl
