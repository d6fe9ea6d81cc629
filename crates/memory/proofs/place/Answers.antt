use Rattle.std.proofs.Common.{arith, refl, sym, ◌∙◌}
use Rattle.memory.proofs.Cases.{low, high}
use Rattle.memory.proofs.place.Goals as goal

pub overflow_sub-result : goal.overflow_sub-result
overflow_sub-result g c = low _ _ _ _ _ c.holds.ensures c.if-holds.true

pub returns-then-holds : goal.returns-then-holds
returns-then-holds g c =
    let l = low _ _ _ _ _ c.holds.ensures c.if-holds.true in
    let h = high _ _ _ _ _ c.holds.ensures c.if-holds.true in
    let n = c.BYTES.ensures in (
      sym (rw n at c.holds.ensures) ∙ c.if-holds.true,
      refl,
      omega (arith, l, h, n),
    )

pub returns-else-holds : goal.returns-else-holds
returns-else-holds g c = let n = c.BYTES.ensures in (sym (rw n at c.holds.ensures) ∙ c.if-holds.false, refl)
