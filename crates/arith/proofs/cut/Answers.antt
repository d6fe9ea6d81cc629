use mathlib.Core.Path.{refl}
use native.Mathlib.Nat.{mod-lt}
use Rattle.arith.proofs.cut.Goals as goal

pub returns : goal.returns
returns c = (refl, mod-lt _ c.requires)
