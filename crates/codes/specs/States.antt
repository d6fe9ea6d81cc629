-- Document 01, "Codes", the numbers in brackets: the states of each instruction, with all memory on chip at two states an access
-- (002:4292, 4326-4334; advanced mode). In the document's order. And where an instruction lets PC go, apart from what it does.
-- What is not valid has a number here too, that of its neighbours; no promise rests on it.
use Rattle.std.specs.Prelude.{ℕ}
use Rattle.codes.specs.Names.{Width, Byte, Word, Long, Op, Add, Sub, Cmp, Mov, Addx, Subx, Or, Xor, And, Source, Reg, Imm}
use Rattle.codes.specs.Names.{Spot, InPart, AtEr, AtAbs}
use Rattle.codes.specs.Names.{Half, Eight, Sixteen, Sign, Unsigned, Signed}
use Rattle.codes.specs.Names.{Place, At, Step, Disp, Abs8, Abs16, Abs24, Reach, Near, Far, Target, ByReg, Direct, Vector}
use Rattle.codes.specs.Names.{Instruction, Nop, Stc, LdcReg, Ccr, Alu, IncDec, AddsSubs, Decimal, Shift, Unary, Multiply, Divide, Takes, Gives, Move, Bcc, Jmp, Bsr, Jsr, Rts}
use Rattle.codes.specs.Names.{Goes, Onward, Branches, Jumps, CallsNear, Calls, Returns}

-- register to register: 2; a long OR, XOR, AND: 4
abbrev pub long_states : Op → ℕ
long_states Add = 2
long_states Sub = 2
long_states Cmp = 2
long_states Mov = 2
long_states Addx = 2
long_states Subx = 2
long_states Or = 4
long_states Xor = 4
long_states And = 4

abbrev pub reg_states : Op → Width → ℕ
reg_states op Byte = 2
reg_states op Word = 2
reg_states op Long = long_states op

-- an immediate byte: 2; 79 word: 4; 7A long: 6
abbrev pub imm_states : Width → ℕ
imm_states Byte = 2
imm_states Word = 4
imm_states Long = 6

-- MOV with memory. Byte: @ER 4, aa:8 4, @ER+ and @-ER 6, d:16 6, aa:16 6, aa:24 8. Word: 4, 6, 6, 6, 8. Long: 8, 10, 10, 10, 12.
abbrev pub short_move_states : Place → ℕ
short_move_states (At e) = 4
short_move_states (Abs8 a) = 4
short_move_states (Step e) = 6
short_move_states (Disp e d) = 6
short_move_states (Abs16 a) = 6
short_move_states (Abs24 a) = 8

abbrev pub long_move_states : Place → ℕ
long_move_states (At e) = 8
long_move_states (Abs8 a) = 8
long_move_states (Step e) = 10
long_move_states (Disp e d) = 10
long_move_states (Abs16 a) = 10
long_move_states (Abs24 a) = 12

abbrev pub move_states : Width → Place → ℕ
move_states Byte p = short_move_states p
move_states Word p = short_move_states p
move_states Long p = long_move_states p

-- Bcc: d:8 4, d:16 6, taken or not. JMP 4, 6, 10. BSR 8, 10. JSR 8, 10, 12. RTS 10.
abbrev pub bcc_states : Reach → ℕ
bcc_states (Near d) = 4
bcc_states (Far d) = 6

abbrev pub jmp_states : Target → ℕ
jmp_states (ByReg e) = 4
jmp_states (Direct a) = 6
jmp_states (Vector a) = 10

abbrev pub bsr_states : Reach → ℕ
bsr_states (Near d) = 8
bsr_states (Far d) = 10

abbrev pub jsr_states : Target → ℕ
jsr_states (ByReg e) = 8
jsr_states (Direct a) = 10
jsr_states (Vector a) = 12

abbrev pub alu_states : Op → Width → Source → ℕ
alu_states op w (Reg s) = reg_states op w
alu_states op w (Imm v) = imm_states w

-- document 02, W1: MULXU and DIVXU 14 byte, 22 word; MULXS and DIVXS 16 and 24
abbrev pub unsigned_states : Half → ℕ
unsigned_states Eight = 14
unsigned_states Sixteen = 22

abbrev pub signed_states : Half → ℕ
signed_states Eight = 16
signed_states Sixteen = 24

abbrev pub product_states : Sign → Half → ℕ
product_states Unsigned h = unsigned_states h
product_states Signed h = signed_states h

-- document 02, W4: a bit in a register 2; in memory 6 where it is read, 8 where it is read and written (002:4363-4456, 4398-4447)
abbrev pub read_bit_states : Spot → ℕ
read_bit_states (InPart d) = 2
read_bit_states (AtEr e) = 6
read_bit_states (AtAbs a) = 6

abbrev pub written_bit_states : Spot → ℕ
written_bit_states (InPart d) = 2
written_bit_states (AtEr e) = 8
written_bit_states (AtAbs a) = 8

abbrev pub states_of : Instruction → ℕ
states_of Nop = 2
states_of (Stc r) = 2
states_of (LdcReg r) = 2
states_of (Ccr change v) = 2
states_of (Alu op w source d) = alu_states op w source
states_of (IncDec way w by r) = 2
states_of (AddsSubs way by e) = 2
states_of (Decimal way r) = 2
states_of (Shift turn w r) = 2
states_of (Unary single w r) = 2
states_of (Multiply sign h s d) = product_states sign h
states_of (Divide sign h s d) = product_states sign h
states_of (Takes take index spot) = read_bit_states spot
states_of (Gives give index spot) = written_bit_states spot
states_of (Move dir w p r) = move_states w p
states_of (Bcc c reach) = bcc_states reach
states_of (Jmp target) = jmp_states target
states_of (Bsr reach) = bsr_states reach
states_of (Jsr target) = jsr_states target
states_of Rts = 10

-- where PC goes: to the next instruction, or by a branch, a jump, a call, a return
abbrev pub goes_of : Instruction → Goes
goes_of Nop = Onward
goes_of (Stc r) = Onward
goes_of (LdcReg r) = Onward
goes_of (Ccr change v) = Onward
goes_of (Alu op w source d) = Onward
goes_of (IncDec way w by r) = Onward
goes_of (AddsSubs way by e) = Onward
goes_of (Decimal way r) = Onward
goes_of (Shift turn w r) = Onward
goes_of (Unary single w r) = Onward
goes_of (Multiply sign h s d) = Onward
goes_of (Divide sign h s d) = Onward
goes_of (Takes take index spot) = Onward
goes_of (Gives give index spot) = Onward
goes_of (Move dir w p r) = Onward
goes_of (Bcc c reach) = Branches c reach
goes_of (Jmp target) = Jumps target
goes_of (Bsr reach) = CallsNear reach
goes_of (Jsr target) = Calls target
goes_of Rts = Returns
