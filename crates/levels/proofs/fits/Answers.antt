use mathlib.Core.Path.{◌≡◌, refl}
use mathlib.Core.Bool.{Bool, true, false, ◌&&◌}
use Prim.Native.Nat.{◌%◌}
use lib.Dec.{eqb, leb}
use Rattle.levels.specs.Levels.{fitting}
use Rattle.levels.proofs.fits.Goals as goal

in_order : (a b c d : Bool) → (((a && b) && c) && d) ≡ (a && (b && (c && d)))
in_order true true c d = refl
in_order true false c d = refl
in_order false b c d = refl

pub returns : goal.returns
unfolding fitting
returns c = in_order (eqb (c.args.len % 2) 0) (leb c.args.len 524288) (leb c.args.len c.args.lent) (eqb (c.args.entry % 2) 0)
