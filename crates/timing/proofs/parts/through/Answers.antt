use native.Mathlib.Omega.{arith}
use Rattle.timing.specs.Made.{base_of, most_at, most_of}
use Rattle.timing.proofs.parts.through.Goals as goal

pub returns : goal.returns
unfolding most_of base_of most_at
returns c = omega (arith, c.dearest.ensures.0, rw c.from.ensures at c.most-aim.ensures.0)
