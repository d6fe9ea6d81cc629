-- 002, table 2.6 (4336-4625), by its columns: I words fetched, N internal states, and the data accesses (J, K, L, M), in advanced mode.
-- What an instruction touches in memory is said by its operand; where that lies, and what it costs there, is said in `timing`.
use Rattle.std.specs.Prelude.{ℕ, ◌+◌, List, [], ◌∷◌}
use Rattle.codes.specs.Names.{Width, Byte, Word, Long, Op, Add, Sub, Cmp, Mov, Addx, Subx, Or, Xor, And, Source, Reg, Imm}
use Rattle.codes.specs.Names.{Half, Eight, Sixteen, Sign, Unsigned, Signed, Dir, Load, Store}
use Rattle.codes.specs.Names.{Spot, InPart, AtEr, AtAbs}
use Rattle.codes.specs.Names.{Place, At, Step, Disp, Abs8, Abs16, Abs24, Reach, Near, Far, Target, ByReg, Direct, Vector}
use Rattle.codes.specs.Names.{Instruction, Nop, Stc, LdcReg, Ccr, Alu, IncDec, AddsSubs, Decimal, Shift, Unary, Multiply, Divide, Takes, Gives, Move, Bcc, Jmp, Bsr, Jsr, Rts}

-- column I: the words of the code; of a branch, a jump, a call and a return two
abbrev pub long_fetches : Op → ℕ
long_fetches Add = 1
long_fetches Sub = 1
long_fetches Cmp = 1
long_fetches Mov = 1
long_fetches Addx = 1
long_fetches Subx = 1
long_fetches Or = 2
long_fetches Xor = 2
long_fetches And = 2

abbrev pub alu_fetches : Op → Width → Source → ℕ
alu_fetches op Byte (Reg s) = 1
alu_fetches op Word (Reg s) = 1
alu_fetches op Long (Reg s) = long_fetches op
alu_fetches op Byte (Imm v) = 1
alu_fetches op Word (Imm v) = 2
alu_fetches op Long (Imm v) = 3

abbrev pub place_fetches : Place → ℕ
place_fetches (At e) = 1
place_fetches (Step e) = 1
place_fetches (Disp e d) = 2
place_fetches (Abs8 a) = 1
place_fetches (Abs16 a) = 2
place_fetches (Abs24 a) = 3

abbrev pub move_fetches : Width → Place → ℕ
move_fetches Byte p = place_fetches p
move_fetches Word p = place_fetches p
move_fetches Long p = 1 + place_fetches p

abbrev pub sign_fetches : Sign → ℕ
sign_fetches Unsigned = 1
sign_fetches Signed = 2

abbrev pub spot_fetches : Spot → ℕ
spot_fetches (InPart d) = 1
spot_fetches (AtEr e) = 2
spot_fetches (AtAbs a) = 2

abbrev pub fetches_of : Instruction → ℕ
fetches_of Nop = 1
fetches_of (Stc r) = 1
fetches_of (LdcReg r) = 1
fetches_of (Ccr change v) = 1
fetches_of (Alu op w source d) = alu_fetches op w source
fetches_of (IncDec way w by r) = 1
fetches_of (AddsSubs way by e) = 1
fetches_of (Decimal way r) = 1
fetches_of (Shift turn w r) = 1
fetches_of (Unary single w r) = 1
fetches_of (Multiply sign h s d) = sign_fetches sign
fetches_of (Divide sign h s d) = sign_fetches sign
fetches_of (Takes take index spot) = spot_fetches spot
fetches_of (Gives give index spot) = spot_fetches spot
fetches_of (Move dir w p r) = move_fetches w p
fetches_of (Bcc c reach) = 2
fetches_of (Jmp target) = 2
fetches_of (Bsr reach) = 2
fetches_of (Jsr target) = 2
fetches_of Rts = 2

-- column N: which pause an instruction has
pub data Pause : Type 0 where
  none : Pause
  short : Pause
  reckoning : Half → Pause

abbrev pub pause_states : Pause → ℕ
pause_states none = 0
pause_states short = 2
pause_states (reckoning Eight) = 12
pause_states (reckoning Sixteen) = 20

abbrev pub stepping : Place → Pause
stepping (At e) = none
stepping (Step e) = short
stepping (Disp e d) = none
stepping (Abs8 a) = none
stepping (Abs16 a) = none
stepping (Abs24 a) = none

abbrev pub far : Reach → Pause
far (Near d) = none
far (Far d) = short

abbrev pub jumping : Target → Pause
jumping (ByReg e) = none
jumping (Direct a) = short
jumping (Vector a) = short

abbrev pub calling : Target → Pause
calling (ByReg e) = none
calling (Direct a) = short
calling (Vector a) = none

abbrev pub pause_of : Instruction → Pause
pause_of Nop = none
pause_of (Stc r) = none
pause_of (LdcReg r) = none
pause_of (Ccr change v) = none
pause_of (Alu op w source d) = none
pause_of (IncDec way w by r) = none
pause_of (AddsSubs way by e) = none
pause_of (Decimal way r) = none
pause_of (Shift turn w r) = none
pause_of (Unary single w r) = none
pause_of (Multiply sign h s d) = reckoning h
pause_of (Divide sign h s d) = reckoning h
pause_of (Takes take index spot) = none
pause_of (Gives give index spot) = none
pause_of (Move dir w p r) = stepping p
pause_of (Bcc c reach) = far reach
pause_of (Jmp target) = jumping target
pause_of (Bsr reach) = far reach
pause_of (Jsr target) = calling target
pause_of Rts = short

-- columns J, K, L, M: what is read or written, how wide, where; in the order made
pub record Touch : Type 0 where
  pub dir : Dir
  pub width : Width
  pub place : Place

abbrev pub touch : Dir → Width → Place → Touch
touch d w p = record { dir = d; width = w; place = p }

abbrev pub pushes : List Touch
pushes = touch Store Long (Step 7) ∷ []

abbrev pub aims : Target → List Touch → List Touch
aims (ByReg e) more = more
aims (Direct a) more = more
aims (Vector a) more = touch Load Long (Abs24 a) ∷ more

-- a bit's byte, if it lies in memory
abbrev pub byte : Spot → (Place → List Touch) → List Touch
byte (InPart d) touched = []
byte (AtEr e) touched = touched (At e)
byte (AtAbs a) touched = touched (Abs8 a)

abbrev pub touches_of : Instruction → List Touch
touches_of Nop = []
touches_of (Stc r) = []
touches_of (LdcReg r) = []
touches_of (Ccr change v) = []
touches_of (Alu op w source d) = []
touches_of (IncDec way w by r) = []
touches_of (AddsSubs way by e) = []
touches_of (Decimal way r) = []
touches_of (Shift turn w r) = []
touches_of (Unary single w r) = []
touches_of (Multiply sign h s d) = []
touches_of (Divide sign h s d) = []
touches_of (Takes take index spot) = byte spot (λ p. touch Load Byte p ∷ [])
touches_of (Gives give index spot) = byte spot (λ p. touch Load Byte p ∷ touch Store Byte p ∷ [])
touches_of (Move dir w p r) = touch dir w p ∷ []
touches_of (Bcc c reach) = []
touches_of (Jmp target) = aims target []
touches_of (Bsr reach) = pushes
touches_of (Jsr target) = aims target pushes
touches_of Rts = touch Load Long (Step 7) ∷ []
