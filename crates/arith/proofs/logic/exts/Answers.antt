use native.Mathlib.Omega.{arith}
use Prim.Native.Nat.{◌-◌}
use Rattle.arith.proofs.Once.{num_le, once}
use Rattle.arith.proofs.logic.exts.Goals as goal

pub overflow_mul-y : goal.overflow_mul-y
overflow_mul-y c = omega (arith, once c.from-sign.result (c.power-m.result - c.root-h.result) (rw c.from-sign.ensures (num_le _)))

pub overflow_add-y : goal.overflow_add-y
overflow_add-y c = omega (arith, once c.from-sign.result (c.power-m.result - c.root-h.result) (rw c.from-sign.ensures (num_le _)))

pub overflow_cast-y : goal.overflow_cast-y
overflow_cast-y c = omega (arith, once c.from-sign.result (c.power-m.result - c.root-h.result) (rw c.from-sign.ensures (num_le _)))

pub returns : goal.returns
returns c = cc
