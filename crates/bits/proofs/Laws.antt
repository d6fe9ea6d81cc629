-- A bit replaced: above it, the bit itself, below it; so every other bit stays, whatever the number of bits. Assumes nothing.
use Prim.Native.Nat.{ℕ, zero, suc, ◌+◌, ◌-◌, ◌*◌, ◌/◌, ◌%◌, ◌^◌, ◌≤◌, ◌<◌}
use mathlib.Core.Path.{◌≡◌, refl, sym, ◌∙◌, ap}
use mathlib.Core.Bool.{Bool, true, false}
use mathlib.Core.Logic.{◌≢◌}
use native.Mathlib.Nat.{mod-lt, mul_comm, add-mul, mul_assoc}
use native.Mathlib.Omega.{arith}
use lib.Arith.{digits_lt}
use lib.Dec.{ltb, eqb}
use borrow.Author.Tests.{ltb-true, ltb-false}
use lib.Pow.{pow_pos, pow-add, split, high, low, field, mod-mod-pow, shr-shr, shr_lt}
use Rattle.arith.specs.Widths.{num, low_bit}
use Rattle.bits.specs.Bits.{bit_of, with_bit, OthersStay}

twice : (n : ℕ) → 2 ^ (n + 1) ≡ 2 * 2 ^ n
twice n = pow-add 2 n 1 ∙ mul_comm (2 ^ n) 2

pub num_lt : (v : Bool) → num v < 2
num_lt true = omega arith
num_lt false = omega arith

num_odd : (q r : ℕ) → q % 2 ≡ r → num (eqb r 1) ≡ r
num_odd q zero e = refl
num_odd q (suc zero) e = refl
num_odd q (suc (suc r)) e = absurd (omega arith)

odd_num : (h : ℕ) (v : Bool) → low_bit (h * 2 + num v) ≡ v
odd_num h true = let e : (h * 2 + 1) % 2 ≡ 1 = omega arith in rw e
odd_num h false = let e : (h * 2 + 0) % 2 ≡ 0 = omega arith in rw e

-- as a number above n bits, and those
module _ (n x : ℕ) (v : Bool) where
  two_parts : with_bit n x v ≡ (x / 2 ^ (n + 1) * 2 + num v) * 2 ^ n + x % 2 ^ n
  unfolding with_bit
  two_parts =
      let h = x / 2 ^ (n + 1) in
      ap (λ (y : ℕ). y + num v * 2 ^ n + x % 2 ^ n) (ap (λ (y : ℕ). h * y) (twice n) ∙ sym (mul_assoc h 2 (2 ^ n)))
      ∙ ap (λ (y : ℕ). y + x % 2 ^ n) (sym (add-mul (h * 2) (num v) (2 ^ n)))

  from_it : with_bit n x v / 2 ^ n ≡ x / 2 ^ (n + 1) * 2 + num v
  from_it = ap (λ (y : ℕ). y / 2 ^ n) two_parts ∙ high _ n (mod-lt x (pow_pos n))

  pub above : with_bit n x v / 2 ^ (n + 1) ≡ x / 2 ^ (n + 1)
  above =
      let l = num_lt v in
      let h = x / 2 ^ (n + 1) in
      sym (shr-shr (with_bit n x v) n 1) ∙ ap (λ (y : ℕ). y / 2) from_it ∙ omega arith

  pub the_bit : bit_of n (with_bit n x v) ≡ v
  the_bit = ap low_bit from_it ∙ odd_num (x / 2 ^ (n + 1)) v

  pub below : with_bit n x v % 2 ^ n ≡ x % 2 ^ n
  below = ap (λ (y : ℕ). y % 2 ^ n) two_parts ∙ low _ n (mod-lt x (pow_pos n))

-- a bit replaced by itself
pub itself : (n x : ℕ) → with_bit n x (bit_of n x) ≡ x
itself n x =
    let q = x / 2 ^ n in
    let d : num (low_bit q) ≡ q % 2 = num_odd q (q % 2) refl in
    let h : x / 2 ^ (n + 1) ≡ q / 2 = sym (shr-shr x n 1) in
    let e : x / 2 ^ (n + 1) * 2 + num (low_bit q) ≡ q = omega (arith, d, h) in
    two_parts n x (bit_of n x) ∙ ap (λ (y : ℕ). y * 2 ^ n + x % 2 ^ n) e ∙ split x n

-- bits below, and above
module _ (x y : ℕ) where
  lower : (n d m : ℕ) → n ≡ d + 1 + m → y % 2 ^ n ≡ x % 2 ^ n → bit_of m y ≡ bit_of m x
  lower n d m e h =
      let k : y % 2 ^ (d + 1 + m) ≡ x % 2 ^ (d + 1 + m) = rw e at h in
      let f : y / 2 ^ m % 2 ^ (d + 1) ≡ x / 2 ^ m % 2 ^ (d + 1) = sym (field y (d + 1) m) ∙ ap (λ (z : ℕ). z / 2 ^ m) k ∙ field x (d + 1) m in
      ap (λ (z : ℕ). eqb z 1) (sym (mod-mod-pow (y / 2 ^ m) d 1) ∙ ap (λ (z : ℕ). z % 2) f ∙ mod-mod-pow (x / 2 ^ m) d 1)

  higher : (n d m : ℕ) → m ≡ n + 1 + d → y / 2 ^ (n + 1) ≡ x / 2 ^ (n + 1) → bit_of m y ≡ bit_of m x
  higher n d m e h =
      rw e (ap low_bit (sym (shr-shr y (n + 1) d) ∙ ap (λ (z : ℕ). z / 2 ^ d) h ∙ shr-shr x (n + 1) d))

by_side : (n x : ℕ) (v : Bool) (m : ℕ) → m ≢ n → (t : Bool) → ltb m n ≡ t → bit_of m (with_bit n x v) ≡ bit_of m x
by_side n x v m e true t = let l = ltb-true m n t in lower x (with_bit n x v) n (n - suc m) m (omega arith) (below n x v)
by_side n x v m e false t = let l = ltb-false m n t in higher x (with_bit n x v) n (m - suc n) m (omega arith) (above n x v)

pub others_stay : (n x : ℕ) (v : Bool) → OthersStay n x (with_bit n x v)
others_stay n x v m e = by_side n x v m e (ltb m n) refl

-- a number of 32 bits stays one
pub in_range : (n x : ℕ) (v : Bool) → n < 8 → x < 2 ^ 32 → with_bit n x v < 2 ^ 32
unfolding with_bit
in_range n x v l k =
    let e : 31 - n + (n + 1) ≡ 32 = omega arith in
    let p : 2 ^ (31 - n) * 2 ^ (n + 1) ≡ 2 ^ 32 = sym (pow-add 2 (31 - n) (n + 1)) ∙ ap (λ (y : ℕ). 2 ^ y) e in
    let h : x / 2 ^ (n + 1) < 2 ^ (31 - n) = shr_lt (31 - n) (n + 1) (rw e k) in
    let w : num v * 2 ^ n + x % 2 ^ n < 2 * 2 ^ n = digits_lt (num_lt v) (mod-lt x (pow_pos n)) in
    let w : num v * 2 ^ n + x % 2 ^ n < 2 ^ (n + 1) = rw (twice n) w in
    let d = rw p at (digits_lt h w) in
    omega (arith, d)

-- the bit taken away, and v put in its place
pub taken_away : (n x a : ℕ) → a ≡ num (bit_of n x) * 2 ^ n → a ≤ x
unfolding with_bit
taken_away n x a p = let e = itself n x in omega (arith, e, p)

pub put_in : (n x a b : ℕ) (v : Bool) → a ≡ num (bit_of n x) * 2 ^ n → b ≡ num v * 2 ^ n → x - a + b ≡ with_bit n x v
unfolding with_bit
put_in n x a b v p q = let e = itself n x in omega (arith, e, p, q)
