use native.Mathlib.Omega.{arith}
use Rattle.timing.specs.Made.{base_of, most_at, most_of}
use Rattle.timing.proofs.parts.bsr.Goals as goal

pub returns-in-Near : goal.returns-in-Near
unfolding most_of base_of most_at
returns-in-Near c = rw c.in-Near.is (omega (arith, c.dearest.ensures.0))

pub returns-in-Far : goal.returns-in-Far
unfolding most_of base_of most_at
returns-in-Far c = rw c.in-Far.is (omega (arith, c.dearest-in-Far.ensures.0))
