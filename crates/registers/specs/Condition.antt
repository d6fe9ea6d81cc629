-- The condition byte: I, UI, H, U, N, Z, V, C from bit 7 to 0 (manual 002:470-500), and which of its bits each group of instructions changes (section 2.2).
use Rattle.std.specs.Prelude.{ℕ, ◌+◌, ◌*◌, ◌/◌, Bool, false, ◌&&◌}
use Rattle.arith.specs.Widths.{num, low_bit}
use Rattle.arith.specs.declared.Sum.{Sum}
use Rattle.arith.specs.declared.Counted.{Counted}
use Rattle.arith.specs.declared.Shifted.{Shifted}
use Rattle.arith.specs.declared.Moved.{Moved}
use Rattle.registers.specs.declared.Condition.{Condition}

abbrev pub condition_of : ℕ → Condition
condition_of b =
    record {
      i = low_bit (b / 0x80);
      ui = low_bit (b / 0x40);
      h = low_bit (b / 0x20);
      u = low_bit (b / 0x10);
      n = low_bit (b / 0x08);
      z = low_bit (b / 0x04);
      v = low_bit (b / 0x02);
      c = low_bit (b / 0x01);
    }

unfoldable pub byte_of : Condition → ℕ
byte_of f =
    0x80 * num f.i + 0x40 * num f.ui + 0x20 * num f.h + 0x10 * num f.u + 0x08 * num f.n + 0x04 * num f.z + 0x02 * num f.v
    + 0x01 * num f.c

-- ADD, SUB, CMP, NEG: H N Z V C
abbrev pub with_sum : Condition → Sum → Condition
with_sum f s = record { i = f.i; ui = f.ui; h = s.h; u = f.u; n = s.n; z = s.z; v = s.v; c = s.c }

-- ADDX, SUBX: Z stays where the result is zero, and is cleared otherwise
abbrev pub with_extended : Condition → Sum → Condition
with_extended f s = record { i = f.i; ui = f.ui; h = s.h; u = f.u; n = s.n; z = f.z && s.z; v = s.v; c = s.c }

-- INC, DEC: N Z V; C and H stay
abbrev pub with_counted : Condition → Counted → Condition
with_counted f s = record { i = f.i; ui = f.ui; h = f.h; u = f.u; n = s.n; z = s.z; v = s.v; c = f.c }

-- shifts and rotates: N Z V C; H stays
abbrev pub with_shifted : Condition → Shifted → Condition
with_shifted f s = record { i = f.i; ui = f.ui; h = f.h; u = f.u; n = s.n; z = s.z; v = s.v; c = s.c }

-- MOV, AND, OR, XOR, NOT, EXTU, EXTS: N and Z, V cleared; H and C stay
abbrev pub with_moved : Condition → Moved → Condition
with_moved f s = record { i = f.i; ui = f.ui; h = f.h; u = f.u; n = s.n; z = s.z; v = false; c = f.c }

-- DAA, DAS: N and Z of the result, C of the row; H and V stay (house rule)
abbrev pub with_adjusted : Condition → Moved → Bool → Condition
with_adjusted f s c = record { i = f.i; ui = f.ui; h = f.h; u = f.u; n = s.n; z = s.z; v = f.v; c = c }

-- MULXS, DIVXU, DIVXS: N and Z as found; H, V and C stay (002:2593, 2002, 1892)
abbrev pub with_product : Condition → Moved → Condition
with_product f s = record { i = f.i; ui = f.ui; h = f.h; u = f.u; n = s.n; z = s.z; v = f.v; c = f.c }
