-- What the words of a code say, case by case as the code of `src/plan.rt` and `src/words.rt` does. Nothing here is to be believed: `proofs/` shows that it is the
-- code list, read backwards.
use Rattle.std.specs.Prelude.{ℕ, ◌-◌, ◌/◌, ◌%◌, Bool, true, false, ltb, eqb, Option, Some, None}
use Rattle.products.specs.Products.{product_width}
use Rattle.decoder.specs.Names.{Width, Byte, Word, Long, Op, Add, Sub, Cmp, Mov, Addx, Subx, Or, Xor, And, Reg, Imm, Way, Up, Down, By, One, Two, Four}
use Rattle.decoder.specs.Names.{Turn, Shll, Shlr, Rotxl, Rotxr, Shal, Shar, Rotl, Rotr, Single, Not, Neg, Extu, Exts, Half, Eight, Sixteen, Sign, Unsigned, Signed, Change, Orc, Xorc, Andc, Ldc}
use Rattle.decoder.specs.Names.{Btst, Bor, Bior, Bxor, Bixor, Band, Biand, Bld, Bild, Bset, Bnot, Bclr, Bst, Bist, Index, Numbered, ByPart, Spot, InPart, AtEr, AtAbs}
use Rattle.decoder.specs.Names.{Dir, Load, Store, At, Step, Abs8, Near, ByReg, Vector}
use Rattle.decoder.specs.Names.{Instruction, Nop, Stc, LdcReg, Ccr, Alu, IncDec, AddsSubs, Decimal, Shift, Unary, Multiply, Divide, Takes, Gives, Move, Bcc, Jmp, Bsr, Jsr, Rts}
use Rattle.decoder.specs.Names.{Imm16, Imm32, Disp16, Aa16, Aa24, Bcc16, Bsr16, Jmp24, Jsr24, Plan, Whole, Lacks, Mode, Plain, Stepping, Displaced, Absolute}

abbrev pub pick : {A : Type 0} → Bool → A → A → A
pick true a b = a
pick false a b = b

abbrev pub exactly : ℕ → ℕ → Option Plan → Option Plan
exactly x k p = pick (eqb x k) p None

abbrev pub below : ℕ → ℕ → Option Plan → Option Plan
below x k p = pick (ltb x k) p None

abbrev pub is_ezero : ℕ → Bool
is_ezero b = pick (eqb (b % 16) 0) (ltb (b / 16) 8) false

abbrev pub e_zero : ℕ → Option Plan → Option Plan
e_zero b p = pick (is_ezero b) p None

abbrev pub held : Width → ℕ → Option Plan → Option Plan
held Byte d p = p
held Word d p = p
held Long d p = below d 8 p

abbrev pub nop_of : ℕ → Option Plan
nop_of b = exactly b 0 (Some (Whole Nop))

abbrev pub stc_of : ℕ → Option Plan
stc_of b = below b 16 (Some (Whole (Stc b)))

abbrev pub ldc_of : ℕ → Option Plan
ldc_of b = below b 16 (Some (Whole (LdcReg b)))

abbrev pub ccr_of : Change → ℕ → Option Plan
ccr_of change b = Some (Whole (Ccr change b))

abbrev pub reg_reg : Op → Width → ℕ → Option Plan
reg_reg op w b = Some (Whole (Alu op w (Reg (b / 16)) (b % 16)))

abbrev pub multiplied : Sign → Half → ℕ → Option Plan
multiplied sign h b = held (product_width h) (b % 16) (Some (Whole (Multiply sign h (b / 16) (b % 16))))

abbrev pub divided : Sign → Half → ℕ → Option Plan
divided sign h b = held (product_width h) (b % 16) (Some (Whole (Divide sign h (b / 16) (b % 16))))

abbrev pub long_reg : Op → ℕ → Option Plan
long_reg op b = pick (ltb b 128) None (below (b % 16) 8 (Some (Whole (Alu op Long (Reg (b / 16 - 8)) (b % 16)))))

abbrev pub inc_or_long : Way → Op → ℕ → Option Plan
inc_or_long way op b = pick (ltb b 16) (Some (Whole (IncDec way Byte One b))) (long_reg op b)

abbrev pub decimal_or_long : Way → Op → ℕ → Option Plan
decimal_or_long way op b = pick (ltb b 16) (Some (Whole (Decimal way b))) (long_reg op b)

abbrev pub counted : Way → Width → By → ℕ → Option Plan
counted way w by d = held w d (Some (Whole (IncDec way w by d)))

abbrev pub stepped : Way → By → ℕ → Option Plan
stepped way by d = below d 8 (Some (Whole (AddsSubs way by d)))

abbrev pub inc_decs : Way → ℕ → ℕ → Option Plan
inc_decs way h d =
    pick (eqb h 0x0) (stepped way One d)
    (pick (eqb h 0x8) (stepped way Two d)
    (pick (eqb h 0x9) (stepped way Four d)
    (pick (eqb h 0x5) (counted way Word One d)
    (pick (eqb h 0xD) (counted way Word Two d)
    (pick (eqb h 0x7) (counted way Long One d)
    (pick (eqb h 0xF) (counted way Long Two d) None))))))

abbrev pub inc_dec_of : Way → ℕ → Option Plan
inc_dec_of way b = inc_decs way (b / 16) (b % 16)

abbrev pub turned : Turn → Width → ℕ → Option Plan
turned t w d = held w d (Some (Whole (Shift t w d)))

abbrev pub shifts : Turn → Turn → ℕ → ℕ → Option Plan
shifts t u h d =
    pick (eqb h 0x0) (turned t Byte d)
    (pick (eqb h 0x1) (turned t Word d)
    (pick (eqb h 0x3) (turned t Long d)
    (pick (eqb h 0x8) (turned u Byte d)
    (pick (eqb h 0x9) (turned u Word d)
    (pick (eqb h 0xB) (turned u Long d) None)))))

abbrev pub shift_of : Turn → Turn → ℕ → Option Plan
shift_of t u b = shifts t u (b / 16) (b % 16)

abbrev pub single_of : Single → Width → ℕ → Option Plan
single_of s w d = held w d (Some (Whole (Unary s w d)))

abbrev pub unaries : ℕ → ℕ → Option Plan
unaries h d =
    pick (eqb h 0x0) (single_of Not Byte d)
    (pick (eqb h 0x1) (single_of Not Word d)
    (pick (eqb h 0x3) (single_of Not Long d)
    (pick (eqb h 0x8) (single_of Neg Byte d)
    (pick (eqb h 0x9) (single_of Neg Word d)
    (pick (eqb h 0xB) (single_of Neg Long d)
    (pick (eqb h 0x5) (single_of Extu Word d)
    (pick (eqb h 0x7) (single_of Extu Long d)
    (pick (eqb h 0xD) (single_of Exts Word d)
    (pick (eqb h 0xF) (single_of Exts Long d) None)))))))))

abbrev pub unary_of : ℕ → Option Plan
unary_of b = unaries (b / 16) (b % 16)

abbrev pub row0 : ℕ → ℕ → Option Plan
row0 lo b =
    pick (eqb lo 0x0) (nop_of b)
    (pick (eqb lo 0x2) (stc_of b)
    (pick (eqb lo 0x3) (ldc_of b)
    (pick (eqb lo 0x4) (ccr_of Orc b)
    (pick (eqb lo 0x5) (ccr_of Xorc b)
    (pick (eqb lo 0x6) (ccr_of Andc b)
    (pick (eqb lo 0x7) (ccr_of Ldc b)
    (pick (eqb lo 0x8) (reg_reg Add Byte b)
    (pick (eqb lo 0x9) (reg_reg Add Word b)
    (pick (eqb lo 0xA) (inc_or_long Up Add b)
    (pick (eqb lo 0xB) (inc_dec_of Up b)
    (pick (eqb lo 0xC) (reg_reg Mov Byte b)
    (pick (eqb lo 0xD) (reg_reg Mov Word b)
    (pick (eqb lo 0xE) (reg_reg Addx Byte b)
    (pick (eqb lo 0xF) (decimal_or_long Up Mov b) None))))))))))))))

abbrev pub row1 : ℕ → ℕ → Option Plan
row1 lo b =
    pick (eqb lo 0x0) (shift_of Shll Shal b)
    (pick (eqb lo 0x1) (shift_of Shlr Shar b)
    (pick (eqb lo 0x2) (shift_of Rotxl Rotl b)
    (pick (eqb lo 0x3) (shift_of Rotxr Rotr b)
    (pick (eqb lo 0x4) (reg_reg Or Byte b)
    (pick (eqb lo 0x5) (reg_reg Xor Byte b)
    (pick (eqb lo 0x6) (reg_reg And Byte b)
    (pick (eqb lo 0x7) (unary_of b)
    (pick (eqb lo 0x8) (reg_reg Sub Byte b)
    (pick (eqb lo 0x9) (reg_reg Sub Word b)
    (pick (eqb lo 0xA) (inc_or_long Down Sub b)
    (pick (eqb lo 0xB) (inc_dec_of Down b)
    (pick (eqb lo 0xC) (reg_reg Cmp Byte b)
    (pick (eqb lo 0xD) (reg_reg Cmp Word b)
    (pick (eqb lo 0xE) (reg_reg Subx Byte b)
    (pick (eqb lo 0xF) (decimal_or_long Down Cmp b) None)))))))))))))))

abbrev pub rts_of : ℕ → Option Plan
rts_of b = exactly b 0x70 (Some (Whole Rts))

-- the digit of 58c0 that is to be 0
abbrev pub bcc_digit : ℕ → ℕ
bcc_digit b = b % 16

abbrev pub bcc16 : ℕ → Option Plan
bcc16 b = exactly (bcc_digit b) 0 (Some (Lacks (Bcc16 (b / 16))))

abbrev pub bsr16 : ℕ → Option Plan
bsr16 b = exactly b 0 (Some (Lacks Bsr16))

abbrev pub jmp_reg : ℕ → Option Plan
jmp_reg b = e_zero b (Some (Whole (Jmp (ByReg (b / 16)))))

abbrev pub jsr_reg : ℕ → Option Plan
jsr_reg b = e_zero b (Some (Whole (Jsr (ByReg (b / 16)))))

abbrev pub row5 : ℕ → ℕ → Option Plan
row5 lo b =
    pick (eqb lo 0x0) (multiplied Unsigned Eight b)
    (pick (eqb lo 0x1) (divided Unsigned Eight b)
    (pick (eqb lo 0x2) (multiplied Unsigned Sixteen b)
    (pick (eqb lo 0x3) (divided Unsigned Sixteen b)
    (pick (eqb lo 0x4) (rts_of b)
    (pick (eqb lo 0x5) (Some (Whole (Bsr (Near b))))
    (pick (eqb lo 0x8) (bcc16 b)
    (pick (eqb lo 0x9) (jmp_reg b)
    (pick (eqb lo 0xA) (Some (Lacks (Jmp24 b)))
    (pick (eqb lo 0xB) (Some (Whole (Jmp (Vector b))))
    (pick (eqb lo 0xC) (bsr16 b)
    (pick (eqb lo 0xD) (jsr_reg b)
    (pick (eqb lo 0xE) (Some (Lacks (Jsr24 b)))
    (pick (eqb lo 0xF) (Some (Whole (Jsr (Vector b)))) None)))))))))))))

abbrev pub absolute_of : Width → Dir → ℕ → ℕ → Option Plan
absolute_of w dir e r =
    pick (eqb e 0) (Some (Lacks (Aa16 dir w r)))
    (pick (eqb e 2) (Some (Lacks (Aa24 dir w r))) None)

abbrev pub move_of : Width → Mode → Dir → ℕ → ℕ → Option Plan
move_of w Plain dir e r = Some (Whole (Move dir w (At e) r))
move_of w Stepping dir e r = Some (Whole (Move dir w (Step e) r))
move_of w Displaced dir e r = Some (Lacks (Disp16 dir w e r))
move_of w Absolute dir e r = absolute_of w dir e r

abbrev pub memory_of : Width → Mode → ℕ → Option Plan
memory_of w mode b = pick (ltb b 128) (move_of w mode Load (b / 16) (b % 16)) (move_of w mode Store (b / 16 - 8) (b % 16))

-- a bit instruction: `at` makes it of what it does, `Takes` or `Gives`
abbrev pub by_part : {K : Type 0} → (K → Index → Spot → Instruction) → K → ℕ → Spot → Option Plan
by_part at kind b spot = Some (Whole (at kind (ByPart (b / 16)) spot))

abbrev pub numbered : {K : Type 0} → (K → Index → Spot → Instruction) → K → ℕ → Spot → Option Plan
numbered at kind b spot = below b 128 (Some (Whole (at kind (Numbered (b / 16)) spot)))

abbrev pub either : {K : Type 0} → (K → Index → Spot → Instruction) → K → K → ℕ → Spot → Option Plan
either at kind inverted b spot = pick (ltb b 128) (Some (Whole (at kind (Numbered (b / 16)) spot))) (Some (Whole (at inverted (Numbered (b / 16 - 8)) spot)))

abbrev pub reads_of : ℕ → ℕ → Spot → Option Plan
reads_of c d spot =
    pick (eqb c 0x63) (by_part Takes Btst d spot)
    (pick (eqb c 0x73) (numbered Takes Btst d spot)
    (pick (eqb c 0x74) (either Takes Bor Bior d spot)
    (pick (eqb c 0x75) (either Takes Bxor Bixor d spot)
    (pick (eqb c 0x76) (either Takes Band Biand d spot)
    (pick (eqb c 0x77) (either Takes Bld Bild d spot) None)))))

abbrev pub writes_of : ℕ → ℕ → Spot → Option Plan
writes_of c d spot =
    pick (eqb c 0x60) (by_part Gives Bset d spot)
    (pick (eqb c 0x61) (by_part Gives Bnot d spot)
    (pick (eqb c 0x62) (by_part Gives Bclr d spot)
    (pick (eqb c 0x67) (either Gives Bst Bist d spot)
    (pick (eqb c 0x70) (numbered Gives Bset d spot)
    (pick (eqb c 0x71) (numbered Gives Bnot d spot)
    (pick (eqb c 0x72) (numbered Gives Bclr d spot) None))))))

abbrev pub reads_part : ℕ → ℕ → Option Plan
reads_part a b = reads_of a b (InPart (b % 16))

abbrev pub writes_part : ℕ → ℕ → Option Plan
writes_part a b = writes_of a b (InPart (b % 16))

abbrev pub row6 : ℕ → ℕ → Option Plan
row6 lo b =
    pick (eqb lo 0x0) (writes_part 0x60 b)
    (pick (eqb lo 0x1) (writes_part 0x61 b)
    (pick (eqb lo 0x2) (writes_part 0x62 b)
    (pick (eqb lo 0x3) (reads_part 0x63 b)
    (pick (eqb lo 0x4) (reg_reg Or Word b)
    (pick (eqb lo 0x5) (reg_reg Xor Word b)
    (pick (eqb lo 0x6) (reg_reg And Word b)
    (pick (eqb lo 0x7) (writes_part 0x67 b)
    (pick (eqb lo 0x8) (memory_of Byte Plain b)
    (pick (eqb lo 0x9) (memory_of Word Plain b)
    (pick (eqb lo 0xA) (memory_of Byte Absolute b)
    (pick (eqb lo 0xB) (memory_of Word Absolute b)
    (pick (eqb lo 0xC) (memory_of Byte Stepping b)
    (pick (eqb lo 0xD) (memory_of Word Stepping b)
    (pick (eqb lo 0xE) (memory_of Byte Displaced b)
    (pick (eqb lo 0xF) (memory_of Word Displaced b) None)))))))))))))))

abbrev pub first_op : ℕ → Op
first_op d =
    pick (eqb d 0x8) Add
    (pick (eqb d 0x9) Addx
    (pick (eqb d 0xA) Cmp
    (pick (eqb d 0xB) Subx
    (pick (eqb d 0xC) Or
    (pick (eqb d 0xD) Xor
    (pick (eqb d 0xE) And Mov))))))

abbrev pub next_op : ℕ → Op
next_op d =
    pick (eqb d 0) Mov
    (pick (eqb d 1) Add
    (pick (eqb d 2) Cmp
    (pick (eqb d 3) Sub
    (pick (eqb d 4) Or
    (pick (eqb d 5) Xor And)))))

abbrev pub imm16 : ℕ → Option Plan
imm16 b = below b 0x70 (Some (Lacks (Imm16 (next_op (b / 16)) (b % 16))))

abbrev pub imm32 : ℕ → Option Plan
imm32 b = below b 0x70 (below (b % 16) 8 (Some (Lacks (Imm32 (next_op (b / 16)) (b % 16)))))

abbrev pub row7 : ℕ → ℕ → Option Plan
row7 lo b =
    pick (eqb lo 0x0) (writes_part 0x70 b)
    (pick (eqb lo 0x1) (writes_part 0x71 b)
    (pick (eqb lo 0x2) (writes_part 0x72 b)
    (pick (eqb lo 0x3) (reads_part 0x73 b)
    (pick (eqb lo 0x4) (reads_part 0x74 b)
    (pick (eqb lo 0x5) (reads_part 0x75 b)
    (pick (eqb lo 0x6) (reads_part 0x76 b)
    (pick (eqb lo 0x7) (reads_part 0x77 b)
    (pick (eqb lo 0x9) (imm16 b)
    (pick (eqb lo 0xA) (imm32 b) None)))))))))

abbrev pub plans : ℕ → ℕ → ℕ → Option Plan
plans hi lo b =
    pick (eqb hi 0) (row0 lo b)
    (pick (eqb hi 1) (row1 lo b)
    (pick (eqb hi 2) (Some (Whole (Move Load Byte (Abs8 b) lo)))
    (pick (eqb hi 3) (Some (Whole (Move Store Byte (Abs8 b) lo)))
    (pick (eqb hi 4) (Some (Whole (Bcc lo (Near b))))
    (pick (eqb hi 5) (row5 lo b)
    (pick (eqb hi 6) (row6 lo b)
    (pick (eqb hi 7) (row7 lo b) (Some (Whole (Alu (first_op hi) Byte (Imm b) lo))))))))))

abbrev pub plan_of : ℕ → ℕ → Option Plan
plan_of a b = plans (a / 16) (a % 16) b

abbrev pub long_memory : Mode → ℕ → Option Plan
long_memory mode d = below (d % 16) 8 (memory_of Long mode d)

abbrev pub long_logic : Op → ℕ → Option Plan
long_logic op d = below d 128 (below (d % 16) 8 (reg_reg op Long d))

abbrev pub after00 : ℕ → ℕ → Option Plan
after00 c d =
    pick (eqb c 0x69) (long_memory Plain d)
    (pick (eqb c 0x6B) (long_memory Absolute d)
    (pick (eqb c 0x6D) (long_memory Stepping d)
    (pick (eqb c 0x6F) (long_memory Displaced d) None)))

abbrev pub after_c0 : ℕ → ℕ → Option Plan
after_c0 c d =
    pick (eqb c 0x50) (multiplied Signed Eight d)
    (pick (eqb c 0x52) (multiplied Signed Sixteen d) None)

abbrev pub after_d0 : ℕ → ℕ → Option Plan
after_d0 c d =
    pick (eqb c 0x51) (divided Signed Eight d)
    (pick (eqb c 0x53) (divided Signed Sixteen d) None)

abbrev pub after_f0 : ℕ → ℕ → Option Plan
after_f0 c d =
    pick (eqb c 0x64) (long_logic Or d)
    (pick (eqb c 0x65) (long_logic Xor d)
    (pick (eqb c 0x66) (long_logic And d) None))

abbrev pub after01 : ℕ → ℕ → ℕ → Option Plan
after01 b c d =
    pick (eqb b 0x00) (after00 c d)
    (pick (eqb b 0xC0) (after_c0 c d)
    (pick (eqb b 0xD0) (after_d0 c d)
    (pick (eqb b 0xF0) (after_f0 c d) None)))

abbrev pub names_byte : ℕ → ℕ → Bool
names_byte a b =
    pick (eqb a 0x7C) (is_ezero b)
    (pick (eqb a 0x7D) (is_ezero b)
    (pick (eqb a 0x7E) true
    (pick (eqb a 0x7F) true false)))

abbrev pub named_spot : ℕ → ℕ → Spot
named_spot a b = pick (ltb a 0x7E) (AtEr (b / 16)) (AtAbs b)

abbrev pub bit_word : ℕ → ℕ → ℕ → Spot → Option Plan
bit_word a c d spot = pick (eqb (a % 2) 0) (reads_of c d spot) (writes_of c d spot)

abbrev pub memory_bit : ℕ → ℕ → ℕ → ℕ → Option Plan
memory_bit a b c d = pick (names_byte a b) (exactly (d % 16) 0 (bit_word a c d (named_spot a b))) None

abbrev pub after_of : ℕ → ℕ → ℕ → ℕ → Option Plan
after_of a b c d = pick (eqb a 0x01) (after01 b c d) (memory_bit a b c d)
