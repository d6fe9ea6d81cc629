-- Signed displacements and their targets, and the same in unsigned numbers.
-- Assumes nothing.
use Rattle.std.proofs.Common.{◌≡◌, ℕ, suc, ◌+◌, ◌%◌, ◌^◌, ◌≤◌, ◌<◌, ◌⊎◌, refl, inl, inr, ⊎_elim, arith, le-ltb, lt-ltb, le-leb, w8, w16, w32, ℤ, pos, ◌+ℤ◌}
use Rattle.std.specs.Int.{cast_signed, cast_unsigned}
use native.Mathlib.Decide.{dec_le}
use borrow.Author.Tests.{lt-leb}
use lib.IntN.{negsuc}
use lib.Signed.{mag}
use Rattle.arith.specs.Widths.{signed_of}
use Rattle.codes.specs.declared.Reach.{Reach}
use Rattle.registers.specs.Parts.{pc_of}
use Rattle.flow.specs.Targets.{displacement_of, address_of, target_of}

le_or : (a b : ℕ) → (a ≤ b) ⊎ (b < a)
le_or a b = go (dec_le a b)
  where
    go : Dec (a ≤ b) → (a ≤ b) ⊎ (b < a)
    go (yes h) = inl h
    go (no h) = inr (omega arith)

-- d:8 and d:16 as signed numbers
pub near_is : (d : ℕ) → d < 256 → (cast_signed w8 d ≡ signed_of 8 d) × (mag (cast_signed w8 d) < 32768)
unfolding signed_of
near_is d h =
    let e : d % 256 ≡ d = omega arith in
    rw e (⊎_elim (λ (k : 128 ≤ d). simp (le-ltb d 128 k, le-leb 128 d k, lt-ltb d 256 h) (refl, omega arith)) (λ (k : d < 128). simp (lt-ltb d 128 k, lt-leb 128 d k) (refl, omega arith)) (le_or 128 d))

pub far_is : (d : ℕ) → d < 65536 → (cast_signed w16 d ≡ signed_of 16 d) × (mag (cast_signed w16 d) < 32768)
unfolding signed_of
far_is d h =
    let e : d % 65536 ≡ d = omega arith in
    rw e (⊎_elim (λ (k : 32768 ≤ d). simp (le-ltb d 32768 k, le-leb 32768 d k, lt-ltb d 65536 h) (refl, omega arith)) (λ (k : d < 32768). simp (lt-ltb d 32768 k, lt-leb 32768 d k) (refl, omega arith)) (le_or 32768 d))

-- next + z, as the code adds them
pub address_is : (next : ℕ) (z : ℤ) → next < 2 ^ 32 → mag z < 32768 → pc_of ((next + cast_unsigned w32 z) % 2 ^ 32) ≡ pc_of (address_of (pos next +ℤ z))
address_is next (pos a) n h = omega arith
address_is next (negsuc a) n h =
    ⊎_elim (λ (k : suc a ≤ next). simp (le-ltb next (suc a) k) (omega arith)) (λ (k : next < suc a). simp (lt-ltb next (suc a) k) (omega arith)) (le_or (suc a) next)

-- a target is a place
pub target_even : (next : ℕ) (reach : Reach) → target_of next reach % 2 ≡ 0
unfolding target_of
target_even next reach = omega arith

address_small : (z : ℤ) → address_of z < 16777216
address_small (pos n) = omega arith
address_small (negsuc n) = omega arith

pub target_in : (next : ℕ) (reach : Reach) → target_of next reach < 16777216
unfolding target_of
target_in next reach = omega (arith, address_small (pos next +ℤ displacement_of reach))
