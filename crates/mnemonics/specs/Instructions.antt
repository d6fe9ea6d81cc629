-- An instruction as the maker's assembler writes it: document 002, section 2.2, the assembler format of each page.
use Rattle.std.specs.Prelude.{ℕ, List, ◌++◌}
use Rattle.mnemonics.specs.Parts.{Width, Byte, Op, Source, Way, By, Turn, Single, Half, Sign, Change, Dir, Load, Store, Place, Take, Give, Index, Spot, Reach, Target, Instruction, Nop, Stc, LdcReg, Ccr, Alu, IncDec, AddsSubs, Decimal, Shift, Unary, Multiply, Divide, Takes, Gives, Move, Bcc, Jmp, Bsr, Jsr, Rts}
use Rattle.products.specs.Products.{factor_width, product_width}
use Rattle.flow.specs.Targets.{target_of}
use Rattle.text.specs.Lines.{ascii}
use Rattle.mnemonics.specs.Names.{byte_reg, long_reg, reg_of, mark_of, op_name, op_mark, way_name, multiply_name, divide_name, take_name, give_name, adds_name, decimal_name, turn_name, single_name, change_name, by_of, branch_name}
use Rattle.mnemonics.specs.Operands.{immediate_of, source_of, count_of, place_text, index_text, spot_text, reach_of, target_text}

abbrev pub stc_text : ℕ → List ℕ
stc_text d = ascii "STC.B CCR," ++ byte_reg d

abbrev pub ldc_text : ℕ → List ℕ
ldc_text d = ascii "LDC.B " ++ (byte_reg d ++ ascii ",CCR")

-- ORC, XORC, ANDC and LDC with an immediate
abbrev pub ccr_text : Change → ℕ → List ℕ
ccr_text change x = change_name change ++ (immediate_of Byte x ++ ascii ",CCR")

-- ADD to AND
abbrev pub alu_text : Op → Width → Source → ℕ → List ℕ
alu_text op w s d = op_name op ++ (op_mark op w ++ (ascii " " ++ (source_of w s ++ (ascii "," ++ reg_of w d))))

-- INC and DEC
abbrev pub count_text : Way → Width → By → ℕ → List ℕ
count_text way w by d = way_name way ++ (mark_of w ++ (ascii " " ++ (count_of w by ++ reg_of w d)))

abbrev pub adds_text : Way → By → ℕ → List ℕ
adds_text way by d = adds_name way ++ (by_of by ++ long_reg d)

abbrev pub decimal_text : Way → ℕ → List ℕ
decimal_text way d = decimal_name way ++ byte_reg d

abbrev pub shift_text : Turn → Width → ℕ → List ℕ
shift_text turn w d = turn_name turn ++ (mark_of w ++ (ascii " " ++ reg_of w d))

abbrev pub unary_text : Single → Width → ℕ → List ℕ
unary_text single w d = single_name single ++ (mark_of w ++ (ascii " " ++ reg_of w d))

-- MULXU, MULXS, DIVXU, DIVXS behind their names: the source of half the bits, then the destination
abbrev pub product_text : Half → ℕ → ℕ → List ℕ
product_text h s d = mark_of (factor_width h) ++ (ascii " " ++ (reg_of (factor_width h) s ++ (ascii "," ++ reg_of (product_width h) d)))

abbrev pub multiply_text : Sign → Half → ℕ → ℕ → List ℕ
multiply_text sign h s d = multiply_name sign ++ product_text h s d

abbrev pub divide_text : Sign → Half → ℕ → ℕ → List ℕ
divide_text sign h s d = divide_name sign ++ product_text h s d

-- a bit instruction behind its name: the bit's number, then its byte
abbrev pub bit_text : Index → Spot → List ℕ
bit_text index spot = index_text index ++ (ascii "," ++ spot_text spot)

abbrev pub take_text : Take → Index → Spot → List ℕ
take_text take index spot = take_name take ++ bit_text index spot

abbrev pub give_text : Give → Index → Spot → List ℕ
give_text give index spot = give_name give ++ bit_text index spot

-- MOV with memory: source, then destination
abbrev pub load_text : Width → Place → ℕ → List ℕ
load_text w p d = ascii "MOV" ++ (mark_of w ++ (ascii " " ++ (place_text Load p ++ (ascii "," ++ reg_of w d))))

abbrev pub store_text : Width → Place → ℕ → List ℕ
store_text w p d = ascii "MOV" ++ (mark_of w ++ (ascii " " ++ (reg_of w d ++ (ascii "," ++ place_text Store p))))

abbrev pub move_text : Dir → Width → Place → ℕ → List ℕ
move_text Load w p d = load_text w p d
move_text Store w p d = store_text w p d

abbrev pub bcc_text : ℕ → ℕ → Reach → List ℕ
bcc_text next c reach = branch_name c ++ (ascii " " ++ reach_of (target_of next reach) reach)

abbrev pub bsr_text : ℕ → Reach → List ℕ
bsr_text next reach = ascii "BSR " ++ reach_of (target_of next reach) reach

abbrev pub jmp_text : Target → List ℕ
jmp_text to = ascii "JMP " ++ target_text to

abbrev pub jsr_text : Target → List ℕ
jsr_text to = ascii "JSR " ++ target_text to

-- the next instruction's address is `next`
abbrev pub text_of : ℕ → Instruction → List ℕ
text_of next Nop = ascii "NOP"
text_of next (Stc d) = stc_text d
text_of next (LdcReg d) = ldc_text d
text_of next (Ccr change x) = ccr_text change x
text_of next (Alu op w s d) = alu_text op w s d
text_of next (IncDec way w by d) = count_text way w by d
text_of next (AddsSubs way by d) = adds_text way by d
text_of next (Decimal way d) = decimal_text way d
text_of next (Shift turn w d) = shift_text turn w d
text_of next (Unary single w d) = unary_text single w d
text_of next (Multiply sign h s d) = multiply_text sign h s d
text_of next (Divide sign h s d) = divide_text sign h s d
text_of next (Takes take index spot) = take_text take index spot
text_of next (Gives give index spot) = give_text give index spot
text_of next (Move dir w p d) = move_text dir w p d
text_of next (Bcc c reach) = bcc_text next c reach
text_of next (Jmp to) = jmp_text to
text_of next (Bsr reach) = bsr_text next reach
text_of next (Jsr to) = jsr_text to
text_of next Rts = ascii "RTS"
