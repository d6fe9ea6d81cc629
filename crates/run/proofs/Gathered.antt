-- The condition byte, brought together by one product from flags that stand two to a byte. Assumes nothing.
use Prim.Native.Nat.{ℕ, ◌+◌, ◌*◌, ◌/◌, ◌%◌, ◌≤◌, ◌<◌}
use mathlib.Core.Path.{◌≡◌}
use mathlib.Core.Bool.{Bool, true, false}
use native.Mathlib.Omega.{arith}
use Rattle.arith.specs.Widths.{num}
use Rattle.registers.specs.Condition.{byte_of}
use Rattle.registers.specs.declared.Condition.{Condition}
use Rattle.run.specs.MirrorAlong.{apart}

byte_three : (above byte below : ℕ) → byte < 256 → below < 16777216 → ((above * 256 + byte) * 16777216 + below) / 16777216 % 256 ≡ byte
byte_three above byte below l b =
    let q : ((above * 256 + byte) * 16777216 + below) / 16777216 ≡ above * 256 + byte = omega arith in
    rw q (omega arith)

-- what the product brings above byte 3, into it and below it
module _ (i ui h u n z v c : ℕ) (li : i ≤ 1) (lui : ui ≤ 1) (lh : h ≤ 1) (lu : u ≤ 1) (ln : n ≤ 1) (lz : z ≤ 1) (lv : v ≤ 1) (lc : c ≤ 1) where
  parted : (16 * (i + 256 * ui + 65536 * h + 16777216 * u) + (n + 256 * z + 65536 * v + 16777216 * c)) * 134480385 / 16777216 % 256
      ≡ 128 * i + 64 * ui + 32 * h + 16 * u + 8 * n + 4 * z + 2 * v + 1 * c
  parted =
      let above = 8 * (16 * ui + z) + 2052 * (16 * h + v) + 525314 * (16 * u + c) in
      let byte = 128 * i + 64 * ui + 32 * h + 16 * u + 8 * n + 4 * z + 2 * v + 1 * c in
      let below = 262657 * (16 * i + n) + 131328 * (16 * ui + z) + 65536 * (16 * h + v) in
      let e : (16 * (i + 256 * ui + 65536 * h + 16777216 * u) + (n + 256 * z + 65536 * v + 16777216 * c)) * 134480385 ≡ (above * 256 + byte) * 16777216 + below = omega arith in
      rw e (byte_three above byte below (omega arith) (omega arith))

bit : (b : Bool) → num b ≤ 1
bit true = omega arith
bit false = omega arith

pub gathered : (f : Condition) → (16 * apart f.i f.ui f.h f.u + apart f.n f.z f.v f.c) * 134480385 / 16777216 % 256 ≡ byte_of f
unfolding byte_of
gathered f =
    parted (num f.i) (num f.ui) (num f.h) (num f.u) (num f.n) (num f.z) (num f.v) (num f.c)
    (bit f.i) (bit f.ui) (bit f.h) (bit f.u) (bit f.n) (bit f.z) (bit f.v) (bit f.c)
