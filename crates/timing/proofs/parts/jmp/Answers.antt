use native.Mathlib.Omega.{arith}
use Rattle.timing.specs.Made.{base_of, most_of}
use Rattle.timing.proofs.parts.jmp.Goals as goal

pub returns-in-ByReg : goal.returns-in-ByReg
unfolding most_of base_of
returns-in-ByReg c = rw c.in-ByReg.is

pub returns-in-Direct : goal.returns-in-Direct
unfolding most_of base_of
returns-in-Direct c = rw c.in-Direct.is

pub returns-in-Vector : goal.returns-in-Vector
unfolding most_of base_of
returns-in-Vector c = rw c.in-Vector.is (omega (arith, rw c.from.ensures at c.most.ensures.0))
