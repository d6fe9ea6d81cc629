-- What the instructions without memory do to the registers; PC is none of theirs (document 01, "Numbers, flags and addresses"; manual 002, section 2.2).
use Rattle.std.specs.Prelude.{ℕ, ◌+◌, ◌%◌, Bool, false, Option, Some, None}
use Rattle.arith.specs.Widths.{bits_of, moved_of}
use Rattle.arith.specs.Sums.{add_of, sub_of, neg_of, inc_of, dec_of}
use Rattle.arith.specs.Logic.{and_of, or_of, xor_of, not_of, extu_of, exts_of}
use Rattle.arith.specs.Shifts.{shll_of, shlr_of, rotxl_of, rotxr_of, shal_of, shar_of, rotl_of, rotr_of}
use Rattle.arith.specs.Decimal.{adjust_of, daa_rows, das_rows}
use Rattle.arith.specs.declared.Shifted.{Shifted}
use Rattle.refusal.specs.declared.Refusal.TheVariants.{NoAdjustRow}
use Rattle.registers.specs.declared.Registers.{Registers}
use Rattle.registers.specs.Condition.{condition_of, byte_of, with_adjusted}
use Rattle.registers.specs.Parts.{part_of, with_part, with_condition}
use Rattle.arith.specs.declared.Width.{Width}
use Rattle.arith.specs.declared.Width.TheVariants.{Byte, Long}
use Rattle.codes.specs.declared.Op.{Op}
use Rattle.codes.specs.declared.Op.TheVariants.{Add, Sub, Cmp, Mov, Addx, Subx, Or, Xor, And}
use Rattle.codes.specs.declared.Source.{Source}
use Rattle.codes.specs.declared.Source.TheVariants.{Reg, Imm}
use Rattle.codes.specs.declared.Way.{Way}
use Rattle.codes.specs.declared.Way.TheVariants.{Up, Down}
use Rattle.codes.specs.declared.By.{By}
use Rattle.codes.specs.declared.By.TheVariants.{One, Two, Four}
use Rattle.codes.specs.declared.Turn.{Turn}
use Rattle.codes.specs.declared.Turn.TheVariants.{Shll, Shlr, Rotxl, Rotxr, Shal, Shar, Rotl, Rotr}
use Rattle.codes.specs.declared.Single.{Single}
use Rattle.codes.specs.declared.Single.TheVariants.{Not, Neg, Extu, Exts}
use Rattle.codes.specs.declared.Change.{Change}
use Rattle.codes.specs.declared.Change.TheVariants.{Orc, Xorc, Andc, Ldc}
use Rattle.operate.specs.Results.{summed, extended, counted, shifted, moved, compared, Effect, did, refused}

-- STC: the condition byte goes to a byte register, and no flag changes
unfoldable pub stc_of : ℕ → Registers → Registers
stc_of d r = with_part Byte r d (byte_of r.condition)

-- LDC from a byte register: all eight bits
unfoldable pub ldc_of : ℕ → Registers → Registers
ldc_of s r = with_condition r (condition_of (part_of Byte r s % 256))

-- ORC, XORC, ANDC, LDC with an immediate byte: all eight bits
unfoldable pub changed : Change → ℕ → ℕ → ℕ
changed Orc b v = (or_of 8 b v).value
changed Xorc b v = (xor_of 8 b v).value
changed Andc b v = (and_of 8 b v).value
changed Ldc b v = (moved_of 8 v).value

unfoldable pub ccr_of : Change → ℕ → Registers → Registers
ccr_of change v r = with_condition r (condition_of (changed change (byte_of r.condition) v % 256))

-- the source: a register's part, or the number in the code
unfoldable pub source_of : Width → Registers → Source → ℕ
source_of w r (Reg s) = part_of w r s
source_of w r (Imm v) = v

-- ADD to AND: a is the destination before, s the source; the result goes to the part of digit d
unfoldable pub operated_of : Op → Width → ℕ → ℕ → ℕ → Registers → Registers
operated_of Add w a s d r = summed w d r (add_of (bits_of w) a s false)
operated_of Sub w a s d r = summed w d r (sub_of (bits_of w) a s false)
operated_of Cmp w a s d r = compared r (sub_of (bits_of w) a s false)
operated_of Mov w a s d r = moved w d r (moved_of (bits_of w) s)
operated_of Addx w a s d r = extended w d r (add_of (bits_of w) a s r.condition.c)
operated_of Subx w a s d r = extended w d r (sub_of (bits_of w) a s r.condition.c)
operated_of Or w a s d r = moved w d r (or_of (bits_of w) a s)
operated_of Xor w a s d r = moved w d r (xor_of (bits_of w) a s)
operated_of And w a s d r = moved w d r (and_of (bits_of w) a s)

unfoldable pub alu_of : Op → Width → Source → ℕ → Registers → Registers
alu_of op w s d r = operated_of op w (part_of w r d) (source_of w r s) d r

-- by 1, 2 or 4
abbrev pub by_of : By → ℕ
by_of One = 1
by_of Two = 2
by_of Four = 4

-- INC and DEC
unfoldable pub inc_dec_of : Way → Width → By → ℕ → Registers → Registers
inc_dec_of Up w by d r = counted w d r (inc_of (bits_of w) (part_of w r d) (by_of by))
inc_dec_of Down w by d r = counted w d r (dec_of (bits_of w) (part_of w r d) (by_of by))

-- a register of 32 bits, higher or lower by n; no flag changes
unfoldable pub carried_of : Way → ℕ → ℕ → Registers → Registers
carried_of Up n e r = with_part Long r e (add_of 32 (part_of Long r e) n false).value
carried_of Down n e r = with_part Long r e (sub_of 32 (part_of Long r e) n false).value

-- ADDS and SUBS
unfoldable pub adds_subs_of : Way → By → ℕ → Registers → Registers
adds_subs_of way by e r = carried_of way (by_of by) e r

-- DAA and DAS: the row that fits C, H and the byte x
unfoldable pub row_of : Way → Registers → ℕ → Option (ℕ × Bool)
row_of Up r x = adjust_of daa_rows r.condition.c r.condition.h x
row_of Down r x = adjust_of das_rows r.condition.c r.condition.h x

-- the row's value is added, N and Z follow the result, C is the row's
unfoldable pub added_of : ℕ → Bool → ℕ → ℕ → Registers → Registers
added_of v c x d r =
    let y = moved_of 8 (x % 256 + v) in
    with_condition (with_part Byte r d y.value) (with_adjusted r.condition y c)

-- where no row fits, refusal 7 at the instruction
unfoldable pub adjusted_of : Option (ℕ × Bool) → ℕ → ℕ → Registers → Effect
adjusted_of (Some (v, c)) x d r = did (added_of v c x d r)
adjusted_of None x d r = refused r (NoAdjustRow r.pc)

unfoldable pub decimal_of : Way → ℕ → Registers → Effect
decimal_of way d r = adjusted_of (row_of way r (part_of Byte r d)) (part_of Byte r d) d r

-- shifts and rotates; c is C before
unfoldable pub turned_of : Turn → ℕ → ℕ → Bool → Shifted
turned_of Shll k x c = shll_of k x
turned_of Shlr k x c = shlr_of k x
turned_of Rotxl k x c = rotxl_of k x c
turned_of Rotxr k x c = rotxr_of k x c
turned_of Shal k x c = shal_of k x
turned_of Shar k x c = shar_of k x
turned_of Rotl k x c = rotl_of k x
turned_of Rotr k x c = rotr_of k x

unfoldable pub shift_of : Turn → Width → ℕ → Registers → Registers
shift_of turn w d r = shifted w d r (turned_of turn (bits_of w) (part_of w r d) r.condition.c)

-- NOT, NEG, EXTU, EXTS
unfoldable pub unary_of : Single → Width → ℕ → Registers → Registers
unary_of Not w d r = moved w d r (not_of (bits_of w) (part_of w r d))
unary_of Neg w d r = summed w d r (neg_of (bits_of w) (part_of w r d))
unary_of Extu w d r = moved w d r (extu_of (bits_of w) (part_of w r d))
unary_of Exts w d r = moved w d r (exts_of (bits_of w) (part_of w r d))
