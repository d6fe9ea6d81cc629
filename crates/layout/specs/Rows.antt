-- host/h8.h, "AN INSTRUCTION": the first seven numbers of each instruction, KIND WHICH WIDTH FORM OTHER VALUE REG. Numbers that a kind does not use are 0.
use Rattle.std.specs.Prelude.{ℕ, List, [], ◌∷◌, ◌++◌}
use Rattle.layout.specs.Names.{Source, Reg, Imm, By, Half, Sign, Place, At, Step, Disp, Abs8, Abs16, Abs24, Reach, Near, Far, Target, ByReg, Direct, Vector}
use Rattle.layout.specs.Names.{Instruction, Nop, Stc, LdcReg, Ccr, Alu, IncDec, AddsSubs, Decimal, Shift, Unary, Multiply, Divide, Takes, Gives, Move, Bcc, Jmp, Bsr, Jsr, Rts}
use Rattle.layout.specs.Names.{Index, Numbered, ByPart, Spot, InPart, AtEr, AtAbs}
use Rattle.products.specs.Products.{factor_width}
use Rattle.codes.specs.Code.{length_of}
use Rattle.codes.specs.States.{states_of}
use Rattle.layout.specs.declared.rows.Operand.{Operand}
use Rattle.layout.specs.declared.rows.Row.{Row}
use Rattle.layout.specs.Choices.{width_number, change_number, op_number, way_number, by_number, turn_number, single_number, dir_number, sign_number, take_number, give_number}

abbrev pub operand : ℕ → ℕ → ℕ → Operand
operand form other value = record { form = form; other = other; value = value }

abbrev pub no_operand : Operand
no_operand = operand 0 0 0

-- enum h8_source: source register, or immediate
abbrev pub source_row : Source → Operand
source_row (Reg s) = operand 0 s 0
source_row (Imm v) = operand 1 0 v

-- enum h8_by
abbrev pub by_row : By → Operand
by_row by = operand (by_number by) 0 0

abbrev pub value_row : ℕ → Operand
value_row v = operand 0 0 v

-- enum h8_place: address register, and d:16 or aa:n
abbrev pub place_row : Place → Operand
place_row (At e) = operand 0 e 0
place_row (Step e) = operand 1 e 0
place_row (Disp e d) = operand 2 e d
place_row (Abs8 a) = operand 3 0 a
place_row (Abs16 a) = operand 4 0 a
place_row (Abs24 a) = operand 5 0 a

-- enum h8_reach: d:8 or d:16, by its bits
abbrev pub reach_row : Reach → Operand
reach_row (Near d) = operand 0 0 d
reach_row (Far d) = operand 1 0 d

-- enum h8_target: address register, aa:24, or aa:8
abbrev pub target_row : Target → Operand
target_row (ByReg e) = operand 0 e 0
target_row (Direct a) = operand 1 0 a
target_row (Vector a) = operand 2 0 a

abbrev pub row : ℕ → ℕ → ℕ → Operand → ℕ → Row
row kind which width o reg = record { kind = kind; which = which; width = width; operand = o; reg = reg }

-- MULXU, MULXS, DIVXU and DIVXS: the width is that of the source
abbrev pub product_row : ℕ → Sign → Half → ℕ → ℕ → Row
product_row kind sign h s d = row kind (sign_number sign) (width_number (factor_width h)) (source_row (Reg s)) d

-- enum h8_index: the bit's number, or the byte register that holds it
abbrev pub index_form : Index → ℕ
index_form (Numbered n) = 0
index_form (ByPart r) = 1

abbrev pub index_other : Index → ℕ
index_other (Numbered n) = n
index_other (ByPart r) = r

-- enum h8_spot: the byte register; the address register; or aa:8
abbrev pub spot_form : Spot → ℕ
spot_form (InPart d) = 0
spot_form (AtEr e) = 1
spot_form (AtAbs a) = 2

abbrev pub spot_value : Spot → ℕ
spot_value (InPart d) = 0
spot_value (AtEr e) = 0
spot_value (AtAbs a) = a

abbrev pub spot_reg : Spot → ℕ
spot_reg (InPart d) = d
spot_reg (AtEr e) = e
spot_reg (AtAbs a) = 0

-- the bit instructions: WIDTH has the form of the bit's number and OTHER the number, FORM that of the byte
abbrev pub bit_row : ℕ → ℕ → Index → Spot → Row
bit_row kind which index spot = row kind which (index_form index) (operand (spot_form spot) (index_other index) (spot_value spot)) (spot_reg spot)

unfoldable pub row_of : Instruction → Row
row_of Nop = row 0 0 0 no_operand 0
row_of (Stc d) = row 1 0 0 no_operand d
row_of (LdcReg s) = row 2 0 0 no_operand s
row_of (Ccr change v) = row 3 (change_number change) 0 (value_row v) 0
row_of (Alu op w source d) = row 4 (op_number op) (width_number w) (source_row source) d
row_of (IncDec way w by d) = row 5 (way_number way) (width_number w) (by_row by) d
row_of (AddsSubs way by d) = row 6 (way_number way) 0 (by_row by) d
row_of (Decimal way d) = row 7 (way_number way) 0 no_operand d
row_of (Shift turn w d) = row 8 (turn_number turn) (width_number w) no_operand d
row_of (Unary single w d) = row 9 (single_number single) (width_number w) no_operand d
row_of (Move dir w place r) = row 10 (dir_number dir) (width_number w) (place_row place) r
row_of (Bcc c reach) = row 11 c 0 (reach_row reach) 0
row_of (Jmp target) = row 12 0 0 (target_row target) 0
row_of (Bsr reach) = row 13 0 0 (reach_row reach) 0
row_of (Jsr target) = row 14 0 0 (target_row target) 0
row_of Rts = row 15 0 0 no_operand 0
row_of (Multiply sign h s d) = product_row 16 sign h s d
row_of (Divide sign h s d) = product_row 17 sign h s d
row_of (Takes take index spot) = bit_row 18 (take_number take) index spot
row_of (Gives give index spot) = bit_row 19 (give_number give) index spot

abbrev pub seven : Row → List ℕ
seven f = f.kind ∷ f.which ∷ f.width ∷ f.operand.form ∷ f.operand.other ∷ f.operand.value ∷ f.reg ∷ []

abbrev pub nine : Row → ℕ → ℕ → List ℕ
nine f n s = seven f ++ (n ∷ s ∷ [])

-- all nine: the last two are the length and the states
unfoldable pub numbers_of : Instruction → List ℕ
numbers_of i = nine (row_of i) (length_of i) (states_of i)
