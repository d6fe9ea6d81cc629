use Prim.Native.Nat.{ℕ, zero, suc, ◌+◌, ◌*◌, ◌%◌}
use mathlib.Core.Path.{◌≡◌, refl}
use native.Mathlib.Omega.{arith}
use Rattle.refusal.specs.declared.Refusal.TheVariants.{UnknownCode, LeftOut}
use Rattle.left.specs.Unheld.{unheld_of}
use Rattle.left.proofs.refusal.Goals as goal

no_group : (p g : ℕ) → g ≡ 0 → UnknownCode p ≡ unheld_of p g
unfolding unheld_of
no_group p zero e = refl
no_group p (suc g) e = absurd (omega arith)

a_group : (p g : ℕ) → (g ≡ 0 → ⊥) → LeftOut (g * 16777216 + p % 16777216) ≡ unheld_of p g
unfolding unheld_of
a_group p zero e = absurd (e refl)
a_group p (suc g) e = refl

pub returns-then-g-eq0 : goal.returns-then-g-eq0
returns-then-g-eq0 c = no_group _ _ c.if-g-eq0.true

pub returns-else-g-eq0 : goal.returns-else-g-eq0
returns-else-g-eq0 c = rw c.from.ensures (a_group _ _ c.if-g-eq0.false)
