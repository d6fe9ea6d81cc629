-- The refusal of what is not held names the place, which is an address, and is 3 or 15.
use Prim.Native.Nat.{ℕ, zero, suc, ◌<◌}
use native.Mathlib.Omega.{arith}
use mathlib.Core.Path.{◌≡◌, refl}
use mathlib.Core.Logic.{◌⊎◌, inl, inr}
use Rattle.refusal.specs.Refusals.{number_of, place_of, group_of}
use Rattle.left.specs.Unheld.{unheld_of}

pub unheld_place : (p g : ℕ) → p < 16777216 → place_of (unheld_of p g) ≡ p
unfolding unheld_of
unheld_place p zero h = refl
unheld_place p (suc g) h = omega arith

pub unheld_number : (p g : ℕ) → (number_of (unheld_of p g) ≡ 3) ⊎ (number_of (unheld_of p g) ≡ 15)
unfolding unheld_of
unheld_number p zero = inl refl
unheld_number p (suc g) = inr refl

-- the group is in the answer
pub unheld_group : (p g : ℕ) → group_of (unheld_of p g) ≡ g
unfolding unheld_of
unheld_group p zero = refl
unheld_group p (suc g) = omega arith
