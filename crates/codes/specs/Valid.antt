-- WHICH INSTRUCTIONS THERE ARE: an instruction is valid if each of its fields is in range and document 01 lists a code for it.
-- Document 01, "Codes": "r is a register digit, e a digit 0 to 7 (its top bit zero in the code)".
use Rattle.std.specs.Prelude.{ℕ, ◌<◌}
use Rattle.codes.specs.Names.{Width, Byte, Word, Long, Op, Add, Sub, Cmp, Mov, Addx, Subx, Or, Xor, And, Reg, Imm, By, One, Two, Four, Single, Not, Neg, Extu, Exts}
use Rattle.codes.specs.Names.{Take, Btst, Bor, Bior, Bxor, Bixor, Band, Biand, Bld, Bild, Give, Bset, Bnot, Bclr, Bst, Bist, Index, Numbered, ByPart, Spot, InPart, AtEr, AtAbs}
use Rattle.products.specs.Products.{factor_width, product_width}
use Rattle.codes.specs.Names.{Place, At, Step, Disp, Abs8, Abs16, Abs24, Reach, Near, Far, Target, ByReg, Direct, Vector}
use Rattle.codes.specs.Names.{Instruction, Nop, Stc, LdcReg, Ccr, Alu, IncDec, AddsSubs, Decimal, Shift, Unary, Multiply, Divide, Takes, Gives, Move, Bcc, Jmp, Bsr, Jsr, Rts}

-- a register's digit: r of a byte or a word, e of a long
abbrev pub Digit : Width → ℕ → Type 0
Digit Byte r = r < 16
Digit Word r = r < 16
Digit Long e = e < 8

-- a number with the bits of the width
abbrev pub Number : Width → ℕ → Type 0
Number Byte v = v < 0x100
Number Word v = v < 0x10000
Number Long v = v < 0x100000000

abbrev pub IsByte : Width → Type 0
IsByte Byte = Unit {0}
IsByte Word = ⊥
IsByte Long = ⊥

abbrev pub NotByte : Width → Type 0
NotByte Byte = ⊥
NotByte Word = Unit {0}
NotByte Long = Unit {0}

-- ADDX and SUBX work on bytes only (002:1271, 3448)
abbrev pub HasReg : Op → Width → Type 0
HasReg Add w = Unit {0}
HasReg Sub w = Unit {0}
HasReg Cmp w = Unit {0}
HasReg Mov w = Unit {0}
HasReg Addx w = IsByte w
HasReg Subx w = IsByte w
HasReg Or w = Unit {0}
HasReg Xor w = Unit {0}
HasReg And w = Unit {0}

-- and SUB has no immediate byte (002:3380)
abbrev pub HasImm : Op → Width → Type 0
HasImm Add w = Unit {0}
HasImm Sub w = NotByte w
HasImm Cmp w = Unit {0}
HasImm Mov w = Unit {0}
HasImm Addx w = IsByte w
HasImm Subx w = IsByte w
HasImm Or w = Unit {0}
HasImm Xor w = Unit {0}
HasImm And w = Unit {0}

-- INC and DEC: a byte by 1, a word or a long by 1 or 2
abbrev pub HasBy : Width → By → Type 0
HasBy w One = Unit {0}
HasBy w Two = NotByte w
HasBy w Four = ⊥

-- EXTU and EXTS make words and longs
abbrev pub HasUnary : Single → Width → Type 0
HasUnary Not w = Unit {0}
HasUnary Neg w = Unit {0}
HasUnary Extu w = NotByte w
HasUnary Exts w = NotByte w

-- a bit's number is 0 to 7, and BTST, BSET, BNOT and BCLR alone take it from a register too (002:879)
abbrev pub TakesPart : Take → Type 0
TakesPart Btst = Unit {0}
TakesPart Bor = ⊥
TakesPart Bior = ⊥
TakesPart Bxor = ⊥
TakesPart Bixor = ⊥
TakesPart Band = ⊥
TakesPart Biand = ⊥
TakesPart Bld = ⊥
TakesPart Bild = ⊥

abbrev pub GivesPart : Give → Type 0
GivesPart Bset = Unit {0}
GivesPart Bnot = Unit {0}
GivesPart Bclr = Unit {0}
GivesPart Bst = ⊥
GivesPart Bist = ⊥

abbrev pub HasIndex : Type 0 → Index → Type 0
HasIndex hasPart (Numbered n) = n < 8
HasIndex hasPart (ByPart r) = hasPart × (r < 16)

abbrev pub HasSpot : Spot → Type 0
HasSpot (InPart d) = d < 16
HasSpot (AtEr e) = e < 8
HasSpot (AtAbs a) = a < 0x100

-- aa:8 holds bytes only (document 01 has no word or long code for it)
abbrev pub HasPlace : Width → Place → Type 0
HasPlace w (At e) = e < 8
HasPlace w (Step e) = e < 8
HasPlace w (Disp e d) = (e < 8) × (d < 0x10000)
HasPlace w (Abs8 a) = IsByte w × (a < 0x100)
HasPlace w (Abs16 a) = a < 0x10000
HasPlace w (Abs24 a) = a < 0x1000000

abbrev pub HasReach : Reach → Type 0
HasReach (Near d) = d < 0x100
HasReach (Far d) = d < 0x10000

abbrev pub HasTarget : Target → Type 0
HasTarget (ByReg e) = e < 8
HasTarget (Direct a) = a < 0x1000000
HasTarget (Vector a) = a < 0x100

abbrev pub Valid : Instruction → Type 0
Valid Nop = Unit {0}
Valid (Stc r) = r < 16
Valid (LdcReg r) = r < 16
Valid (Ccr change v) = v < 0x100
Valid (Alu op w (Reg s) d) = HasReg op w × Digit w s × Digit w d
Valid (IncDec way w by r) = HasBy w by × Digit w r
Valid (AddsSubs way by e) = e < 8
Valid (Decimal way r) = r < 16
Valid (Shift turn w r) = Digit w r
Valid (Unary single w r) = HasUnary single w × Digit w r
Valid (Multiply sign h s d) = Digit (factor_width h) s × Digit (product_width h) d
Valid (Divide sign h s d) = Digit (factor_width h) s × Digit (product_width h) d
Valid (Takes take index spot) = HasIndex (TakesPart take) index × HasSpot spot
Valid (Gives give index spot) = HasIndex (GivesPart give) index × HasSpot spot
Valid (Alu op w (Imm v) d) = HasImm op w × Number w v × Digit w d
Valid (Move dir w p r) = HasPlace w p × Digit w r
Valid (Bcc c reach) = (c < 16) × HasReach reach
Valid (Jmp target) = HasTarget target
Valid (Bsr reach) = HasReach reach
Valid (Jsr target) = HasTarget target
Valid Rts = Unit {0}
