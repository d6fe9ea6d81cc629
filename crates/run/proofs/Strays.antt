-- The records beside a run. Assumes nothing.
use Prim.Native.Nat.{ℕ, ◌*◌, ◌<◌}
use mathlib.Core.Path.{◌≡◌, refl}
use mathlib.Core.Bool.{Bool, true, false, not}
use mathlib.Core.List.{List}
use borrow.Author.Tests.{eq-eqb, ne_eqb, eqb-true, eqb-false}
use native.Mathlib.Omega.{arith}
use lib.Dec.{eqb}
use lib.ListN.{length}
use Rattle.registers.specs.declared.Condition.{Condition}
use Rattle.run.specs.MirrorAlong.{longer, differs_at, strays_of}

-- a length of 9, from its bytes in the other order
pub turned : (x y : ℕ) → x < 256 → y < 256 → eqb (longer (longer 0 x) y) 9 ≡ not (not (eqb (longer (longer 0 y) x) 2304))
turned x y lx ly = by (eqb (longer (longer 0 y) x) 2304) refl
  where
    by : (t : Bool) → eqb (longer (longer 0 y) x) 2304 ≡ t → eqb (longer (longer 0 x) y) 9 ≡ not (not t)
    by true e = let h : longer (longer 0 y) x ≡ 2304 = eqb-true (longer (longer 0 y) x) 2304 e in eq-eqb (longer (longer 0 x) y) 9 (omega arith)
    by false e = ne_eqb (longer (longer 0 x) y) 9 (λ (h : longer (longer 0 x) y ≡ 9). eqb-false (longer (longer 0 y) x) 2304 e (omega arith))

module _ (w : List ℕ) (steps pc : ℕ) (f : Condition) (states : ℕ) where
  pub absent : length w ≡ 0 → strays_of w steps pc f states ≡ false
  unfolding strays_of
  absent h = rw (eq-eqb _ _ h)

  pub present : (length w ≡ 0 → ⊥) → strays_of w steps pc f states ≡ differs_at w (steps * 11) pc f states
  unfolding strays_of
  present h = rw (ne_eqb _ _ h)
