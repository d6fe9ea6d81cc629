use Prim.Native.Nat.{◌/◌}
use native.Mathlib.Omega.{arith}
use Rattle.arith.proofs.Once.{num_le, once}
use Rattle.arith.specs.Shifts.{right_of}
use Rattle.arith.proofs.shifts.right.Goals as goal

pub overflow_mul-from : goal.overflow_mul-from
unfolding right_of
overflow_mul-from c = omega (arith, once c.from-2.result (c.power-m.result / 2) (rw c.from-2.ensures (num_le _)))

pub overflow_add-x : goal.overflow_add-x
unfolding right_of
overflow_add-x c = omega (arith, once c.from-2.result (c.power-m.result / 2) (rw c.from-2.ensures (num_le _)))

pub returns : goal.returns
unfolding right_of
returns c = cc
