-- A condition byte and the byte it stands for are each other's inverse.
use Prim.Native.Nat.{ℕ, zero, suc, ◌+◌, ◌*◌, ◌/◌, ◌%◌, ◌<◌}
use mathlib.Core.Path.{◌≡◌, refl}
use mathlib.Core.Bool.{Bool, true, false}
use native.Mathlib.Omega.{arith}
use lib.Dec.{eqb}
use Rattle.arith.specs.Widths.{num, low_bit}
use Rattle.arith.proofs.Once.{num_le}
use Rattle.registers.specs.declared.Condition.{Condition}
use Rattle.registers.specs.Condition.{condition_of, byte_of}

num_bit : (b : Bool) → eqb (num b) 1 ≡ b
num_bit true = refl
num_bit false = refl

bit_num : (x : ℕ) → x < 2 → num (eqb x 1) ≡ x
bit_num zero l = refl
bit_num (suc zero) l = refl
bit_num (suc (suc x)) l = absurd (omega arith)

module _ (f : Condition) where
  bit : (place : ℕ) (b : Bool) → byte_of f / place % 2 ≡ num b → low_bit (byte_of f / place) ≡ b
  bit place b e = rw e (num_bit b)

  pub condition_back : condition_of (byte_of f) ≡ f
  unfolding byte_of
  condition_back =
      let i = num_le f.i in
      let ui = num_le f.ui in
      let h = num_le f.h in
      let u = num_le f.u in
      let n = num_le f.n in
      let z = num_le f.z in
      let v = num_le f.v in
      let c = num_le f.c in
      rw (
        bit 0x80 f.i (omega arith),
        bit 0x40 f.ui (omega arith),
        bit 0x20 f.h (omega arith),
        bit 0x10 f.u (omega arith),
        bit 0x08 f.n (omega arith),
        bit 0x04 f.z (omega arith),
        bit 0x02 f.v (omega arith),
        bit 0x01 f.c (omega arith),
      )

  pub byte_small : byte_of f < 256
  unfolding byte_of
  byte_small = omega (arith, num_le f.i, num_le f.ui, num_le f.h, num_le f.u, num_le f.n, num_le f.z, num_le f.v, num_le f.c)

-- a byte by its bits, one halving after the other
halvings : (b x1 x2 x3 x4 x5 x6 x7 d0 d1 d2 d3 d4 d5 d6 d7 : ℕ)
    → b ≡ 2 * x1 + d0 → x1 ≡ 2 * x2 + d1 → x2 ≡ 2 * x3 + d2 → x3 ≡ 2 * x4 + d3 → x4 ≡ 2 * x5 + d4 → x5 ≡ 2 * x6 + d5 → x6 ≡ 2 * x7 + d6 → x7 ≡ d7
    → 0x80 * d7 + 0x40 * d6 + 0x20 * d5 + 0x10 * d4 + 0x08 * d3 + 0x04 * d2 + 0x02 * d1 + 0x01 * d0 ≡ b
halvings b x1 x2 x3 x4 x5 x6 x7 d0 d1 d2 d3 d4 d5 d6 d7 e0 e1 e2 e3 e4 e5 e6 e7 = omega arith

pub byte_back : (b : ℕ) → b < 256 → byte_of (condition_of b) ≡ b
unfolding byte_of
byte_back b l =
    rw (
      bit_num (b / 0x80 % 2) (omega arith),
      bit_num (b / 0x40 % 2) (omega arith),
      bit_num (b / 0x20 % 2) (omega arith),
      bit_num (b / 0x10 % 2) (omega arith),
      bit_num (b / 0x08 % 2) (omega arith),
      bit_num (b / 0x04 % 2) (omega arith),
      bit_num (b / 0x02 % 2) (omega arith),
      bit_num (b / 0x01 % 2) (omega arith),
    )
    (halvings b (b / 0x02) (b / 0x04) (b / 0x08) (b / 0x10) (b / 0x20) (b / 0x40) (b / 0x80) (b / 0x01 % 2) (b / 0x02 % 2)
    (b / 0x04 % 2) (b / 0x08 % 2) (b / 0x10 % 2) (b / 0x20 % 2) (b / 0x40 % 2) (b / 0x80 % 2) (omega arith) (omega arith)
    (omega arith) (omega arith) (omega arith) (omega arith) (omega arith) (omega arith))
