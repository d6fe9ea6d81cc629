-- The parts of the registers by their digits (document 01, "Codes"; manual 002:1141-1164), and PC.
-- Byte: 0 to 7 are R0H to R7H, 8 to F are R0L to R7L. Word: 0 to 7 are R0 to R7, 8 to F are E0 to E7. ERn is En above Rn.
use Rattle.std.specs.Prelude.{ℕ, ◌+◌, ◌*◌, ◌/◌, ◌%◌, ◌^◌, ◌≤◌, cond, ◌≡◌, ltb, get_or, set}
use Rattle.arith.specs.Widths.{bits_of}
use Rattle.arith.specs.declared.Width.{Width}
use Rattle.arith.specs.declared.Width.TheVariants.{Byte, Word, Long}
use Rattle.registers.specs.declared.Condition.{Condition}
use Rattle.registers.specs.declared.Registers.{Registers}

-- 2 to the number of bits of the register below the part
abbrev pub below_of : Width → ℕ → ℕ
below_of Byte d = cond (ltb d 8) (2 ^ 8) 1
below_of Word d = cond (ltb d 8) 1 (2 ^ 16)
below_of Long d = 1

-- the part of digit d
unfoldable pub part_of : Width → Registers → ℕ → ℕ
part_of w r d = get_or r.er (d % 8) 0 / below_of w d % 2 ^ bits_of w

-- a register's value where a part is replaced: what is above it, the low bits of x, what is below it
unfoldable pub insert_of : Width → ℕ → ℕ → ℕ → ℕ
insert_of w d old x =
    old / (below_of w d * 2 ^ bits_of w) * (below_of w d * 2 ^ bits_of w) + x % 2 ^ bits_of w * below_of w d + old % below_of w d

-- the registers with the part of digit d replaced, with another condition byte, and with another PC: its lowest bit is cleared whenever it is set
unfoldable pub with_part : Width → Registers → ℕ → ℕ → Registers
with_part w r d x =
    record { er = set r.er (d % 8) (insert_of w d (get_or r.er (d % 8) 0) x); pc = r.pc; condition = r.condition }

abbrev pub with_condition : Registers → Condition → Registers
with_condition r f = record { er = r.er; pc = r.pc; condition = f }

-- what PC holds when it is set to an address
abbrev pub pc_of : ℕ → ℕ
pc_of a = a % 2 ^ 24 / 2 * 2

abbrev pub with_pc : Registers → ℕ → Registers
with_pc r p = record { er = r.er; pc = pc_of p; condition = r.condition }

-- m is a power of two that the code divides by; nothing to be believed
pub record Below (is m : ℕ) : Type 0 where
  pub equal : m ≡ is
  pub least : 1 ≤ m
  pub most : m ≤ 65536
