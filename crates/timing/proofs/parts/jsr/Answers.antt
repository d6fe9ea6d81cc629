use native.Mathlib.Omega.{arith}
use Rattle.timing.specs.Made.{base_of, most_at, most_of}
use Rattle.timing.proofs.parts.jsr.Goals as goal

pub returns-in-ByReg : goal.returns-in-ByReg
unfolding most_of base_of most_at
returns-in-ByReg c = rw c.in-ByReg.is (omega (arith, c.dearest.ensures.0))

pub returns-in-Direct : goal.returns-in-Direct
unfolding most_of base_of most_at
returns-in-Direct c = rw c.in-Direct.is (omega (arith, c.dearest-in-Direct.ensures.0))

pub returns-in-Vector : goal.returns-in-Vector
unfolding most_of base_of most_at
returns-in-Vector c = rw c.in-Vector.is c.through.ensures
