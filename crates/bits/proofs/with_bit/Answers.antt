use Prim.Native.Nat.{◌%◌}
use native.Mathlib.Omega.{arith}
use Rattle.bits.proofs.Laws.{taken_away, put_in, in_range, others_stay}
use Rattle.bits.proofs.with_bit.Goals as goal

pub overflow_sub-result : goal.overflow_sub-result
overflow_sub-result c = taken_away _ _ _ (rw c.bit.ensures at c.placed-old.ensures)

pub overflow_add-result : goal.overflow_add-result
overflow_add-result c = let s = c.args in let e = put_in (s.n % 8) s.x _ _ s.v (rw c.bit.ensures at c.placed-old.ensures) c.placed.ensures in omega (arith, e, in_range (s.n % 8) s.x s.v (omega arith) (omega arith))

pub overflow_cast-result-2 : goal.overflow_cast-result-2
overflow_cast-result-2 c = let s = c.args in let e = put_in (s.n % 8) s.x _ _ s.v (rw c.bit.ensures at c.placed-old.ensures) c.placed.ensures in omega (arith, e, in_range (s.n % 8) s.x s.v (omega arith) (omega arith))

pub returns : goal.returns
returns c = let s = c.args in let e = put_in (s.n % 8) s.x _ _ s.v (rw c.bit.ensures at c.placed-old.ensures) c.placed.ensures in record { value = e; others = λ m h. rw e (others_stay (s.n % 8) s.x s.v m h) }
