-- The instruction of a row, as `src/rows.rt` finds it. Nothing to believe: `proofs/Named.antt` shows that it is the one whose row this is.
use Rattle.std.specs.Prelude.{ℕ, ◌%◌, Bool, cond, ◌&&◌, eqb, Option, Some, None, Result, Ok, Err}
use Rattle.layout.specs.Names.{Width, Byte, Word, Long, Half, Eight, Sixteen}
use Rattle.layout.specs.Names.{Source, Reg, Imm, Place, At, Step, Disp, Abs8, Abs16, Abs24, Reach, Near, Far, Target, ByReg, Direct, Vector}
use Rattle.layout.specs.Names.{Instruction, Nop, Stc, LdcReg, Ccr, Alu, IncDec, AddsSubs, Decimal, Shift, Unary, Multiply, Divide, Takes, Gives, Move, Bcc, Jmp, Bsr, Jsr, Rts}
use Rattle.layout.specs.Names.{Index, Numbered, ByPart, Spot, InPart, AtEr, AtAbs, Refusal, NotInstruction}
use Rattle.layout.specs.declared.rows.Operand.{Operand}
use Rattle.layout.specs.declared.rows.Row.{Row}
use Rattle.codes.specs.Choices.{change_at, op_at, way_at, by_at, turn_at, single_at, dir_at, sign_at, take_at, give_at}
use Rattle.layout.specs.Rows.{row_of}

abbrev pub width_at : ℕ → Result Width Refusal
width_at n = cond (eqb n 0) (Ok Byte) (cond (eqb n 1) (Ok Word) (cond (eqb n 2) (Ok Long) (Err NotInstruction)))

-- by the width of a factor and a divisor
abbrev pub half_at : ℕ → Result Half Refusal
half_at n = cond (eqb n 0) (Ok Eight) (cond (eqb n 1) (Ok Sixteen) (Err NotInstruction))

abbrev pub source_at : Operand → Result Source Refusal
source_at o = cond (eqb o.form 0) (Ok (Reg (o.other % 256))) (cond (eqb o.form 1) (Ok (Imm o.value)) (Err NotInstruction))

abbrev pub place_at : Operand → Result Place Refusal
place_at o =
    cond (eqb o.form 0) (Ok (At (o.other % 256)))
    (cond (eqb o.form 1) (Ok (Step (o.other % 256)))
    (cond (eqb o.form 2) (Ok (Disp (o.other % 256) (o.value % 65536)))
    (cond (eqb o.form 3) (Ok (Abs8 (o.value % 256)))
    (cond (eqb o.form 4) (Ok (Abs16 (o.value % 65536)))
    (cond (eqb o.form 5) (Ok (Abs24 o.value)) (Err NotInstruction))))))

abbrev pub reach_at : Operand → Result Reach Refusal
reach_at o = cond (eqb o.form 0) (Ok (Near (o.value % 256))) (cond (eqb o.form 1) (Ok (Far (o.value % 65536))) (Err NotInstruction))

abbrev pub target_at : Operand → Result Target Refusal
target_at o =
    cond (eqb o.form 0) (Ok (ByReg (o.other % 256)))
    (cond (eqb o.form 1) (Ok (Direct o.value))
    (cond (eqb o.form 2) (Ok (Vector (o.value % 256))) (Err NotInstruction)))

abbrev pub index_at : ℕ → ℕ → Result Index Refusal
index_at width other = cond (eqb width 0) (Ok (Numbered (other % 256))) (cond (eqb width 1) (Ok (ByPart (other % 256))) (Err NotInstruction))

abbrev pub spot_at : ℕ → ℕ → ℕ → Result Spot Refusal
spot_at form value reg =
    cond (eqb form 0) (Ok (InPart (reg % 256)))
    (cond (eqb form 1) (Ok (AtEr (reg % 256)))
    (cond (eqb form 2) (Ok (AtAbs (value % 256))) (Err NotInstruction)))

-- what is made of one choice, of two and of three, in their order
abbrev pub one : {A : Type 0} → Result A Refusal → (A → Instruction) → Result Instruction Refusal
one (Ok x) f = Ok (f x)
one (Err e) f = Err e

abbrev pub two : {A B : Type 0} → Result A Refusal → Result B Refusal → (A → B → Instruction) → Result Instruction Refusal
two (Ok x) q f = one q (f x)
two (Err e) q f = Err e

abbrev pub three : {A B C : Type 0} → Result A Refusal → Result B Refusal → Result C Refusal → (A → B → C → Instruction) → Result Instruction Refusal
three (Ok x) q r f = two q r (f x)
three (Err e) q r f = Err e

unfoldable pub read_row : Row → Result Instruction Refusal
read_row f =
    cond (eqb f.kind 0) (Ok Nop)
    (cond (eqb f.kind 1) (Ok (Stc (f.reg % 256)))
    (cond (eqb f.kind 2) (Ok (LdcReg (f.reg % 256)))
    (cond (eqb f.kind 3) (one (change_at f.which) (λ change. Ccr change (f.operand.value % 256)))
    (cond (eqb f.kind 4) (three (op_at f.which) (width_at f.width) (source_at f.operand) (λ op w source. Alu op w source (f.reg % 256)))
    (cond (eqb f.kind 5) (three (way_at f.which) (width_at f.width) (by_at f.operand.form) (λ way w by. IncDec way w by (f.reg % 256)))
    (cond (eqb f.kind 6) (two (way_at f.which) (by_at f.operand.form) (λ way by. AddsSubs way by (f.reg % 256)))
    (cond (eqb f.kind 7) (one (way_at f.which) (λ way. Decimal way (f.reg % 256)))
    (cond (eqb f.kind 8) (two (turn_at f.which) (width_at f.width) (λ turn w. Shift turn w (f.reg % 256)))
    (cond (eqb f.kind 9) (two (single_at f.which) (width_at f.width) (λ single w. Unary single w (f.reg % 256)))
    (cond (eqb f.kind 10) (three (dir_at f.which) (width_at f.width) (place_at f.operand) (λ dir w p. Move dir w p (f.reg % 256)))
    (cond (eqb f.kind 11) (one (reach_at f.operand) (λ reach. Bcc (f.which % 256) reach))
    (cond (eqb f.kind 12) (one (target_at f.operand) (λ target. Jmp target))
    (cond (eqb f.kind 13) (one (reach_at f.operand) (λ reach. Bsr reach))
    (cond (eqb f.kind 14) (one (target_at f.operand) (λ target. Jsr target))
    (cond (eqb f.kind 15) (Ok Rts)
    (cond (eqb f.kind 16) (two (sign_at f.which) (half_at f.width) (λ sign h. Multiply sign h (f.operand.other % 256) (f.reg % 256)))
    (cond (eqb f.kind 17) (two (sign_at f.which) (half_at f.width) (λ sign h. Divide sign h (f.operand.other % 256) (f.reg % 256)))
    (cond (eqb f.kind 18)
    (three (take_at f.which) (index_at f.width f.operand.other) (spot_at f.operand.form f.operand.value f.reg) (λ take index spot. Takes take index spot))
    (cond (eqb f.kind 19)
    (three (give_at f.which) (index_at f.width f.operand.other) (spot_at f.operand.form f.operand.value f.reg) (λ give index spot. Gives give index spot))
    (Err NotInstruction))))))))))))))))))))

abbrev pub same_of : Row → Row → Bool
same_of f g =
    eqb f.kind g.kind && eqb f.which g.which && eqb f.width g.width
    && (eqb f.operand.form g.operand.form && eqb f.operand.other g.operand.other && eqb f.operand.value g.operand.value)
    && eqb f.reg g.reg

-- an instruction, if this is its row
abbrev pub if_row : Row → Result Instruction Refusal → Option Instruction
if_row f (Ok i) = cond (same_of f (row_of i)) (Some i) None
if_row f (Err e) = None

unfoldable pub named_of : Row → Option Instruction
named_of f = if_row f (read_row f)
