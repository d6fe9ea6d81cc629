-- A step takes a state at least: its code has a word. Assumes nothing.
use Prim.Native.Nat.{◌≤◌}
use native.Mathlib.Omega.{arith}
use Rattle.arith.specs.declared.Width.{Width}
use Rattle.arith.specs.declared.Width.TheVariants.{Byte, Word, Long}
use Rattle.codes.specs.declared.Op.{Op}
use Rattle.codes.specs.declared.Op.TheVariants.{Add, Sub, Cmp, Mov, Addx, Subx, Or, Xor, And}
use Rattle.codes.specs.declared.Source.{Source}
use Rattle.codes.specs.declared.Source.TheVariants.{Reg, Imm}
use Rattle.codes.specs.declared.Sign.{Sign}
use Rattle.codes.specs.declared.Sign.TheVariants.{Unsigned, Signed}
use Rattle.codes.specs.declared.Spot.{Spot}
use Rattle.codes.specs.declared.Spot.TheVariants.{InPart, AtEr, AtAbs}
use Rattle.codes.specs.declared.Place.{Place}
use Rattle.codes.specs.declared.Place.TheVariants.{At, Step, Disp, Abs8, Abs16, Abs24}
use Rattle.codes.specs.declared.Instruction.{Instruction}
use Rattle.codes.specs.declared.Instruction.TheVariants.{Nop, Stc, LdcReg, Ccr, Alu, IncDec, AddsSubs, Decimal, Shift, Unary, Multiply, Divide, Takes, Gives, Move, Bcc, Jmp, Bsr, Jsr, Rts}
use Rattle.codes.specs.Cycles.{long_fetches, alu_fetches, place_fetches, move_fetches, sign_fetches, spot_fetches, fetches_of}
use Rattle.registers.specs.declared.Registers.{Registers}
use Rattle.site.specs.declared.Site.{Site}
use Rattle.timing.specs.Made.{base_of}
use Rattle.moves.specs.Made.{states_at}

long : (op : Op) → 1 ≤ long_fetches op
long Add = omega arith
long Sub = omega arith
long Cmp = omega arith
long Mov = omega arith
long Addx = omega arith
long Subx = omega arith
long Or = omega arith
long Xor = omega arith
long And = omega arith

alu : (op : Op) (w : Width) (s : Source) → 1 ≤ alu_fetches op w s
alu op Byte (Reg r) = omega arith
alu op Word (Reg r) = omega arith
alu op Long (Reg r) = long op
alu op Byte (Imm v) = omega arith
alu op Word (Imm v) = omega arith
alu op Long (Imm v) = omega arith

at_place : (p : Place) → 1 ≤ place_fetches p
at_place (At e) = omega arith
at_place (Step e) = omega arith
at_place (Disp e d) = omega arith
at_place (Abs8 a) = omega arith
at_place (Abs16 a) = omega arith
at_place (Abs24 a) = omega arith

move : (w : Width) (p : Place) → 1 ≤ move_fetches w p
move Byte p = at_place p
move Word p = at_place p
move Long p = omega arith

sign : (s : Sign) → 1 ≤ sign_fetches s
sign Unsigned = omega arith
sign Signed = omega arith

spot : (s : Spot) → 1 ≤ spot_fetches s
spot (InPart d) = omega arith
spot (AtEr e) = omega arith
spot (AtAbs a) = omega arith

fetched : (i : Instruction) → 1 ≤ fetches_of i
fetched Nop = omega arith
fetched (Stc r) = omega arith
fetched (LdcReg r) = omega arith
fetched (Ccr change v) = omega arith
fetched (Alu op w s d) = alu op w s
fetched (IncDec way w by r) = omega arith
fetched (AddsSubs way by e) = omega arith
fetched (Decimal way r) = omega arith
fetched (Shift turn w r) = omega arith
fetched (Unary single w r) = omega arith
fetched (Multiply s h a d) = sign s
fetched (Divide s h a d) = sign s
fetched (Takes take index s) = spot s
fetched (Gives give index s) = spot s
fetched (Move dir w p r) = move w p
fetched (Bcc c reach) = omega arith
fetched (Jmp target) = omega arith
fetched (Bsr reach) = omega arith
fetched (Jsr target) = omega arith
fetched Rts = omega arith

pub takes : (k : Site) (r : Registers) (i : Instruction) → 1 ≤ states_at k r i
unfolding states_at base_of
takes k r i = omega (arith, fetched i)
