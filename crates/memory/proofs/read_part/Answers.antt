use Rattle.std.proofs.Common.{arith}
use Rattle.memory.proofs.Cases.{low, high, in_rom, in_ram, in_none}
use Rattle.memory.proofs.read_part.Goals as goal

pub load-requires : goal.load-requires
load-requires g c = let h = high _ _ _ _ _ c.holds.ensures c.if-holds.true in let n = c.BYTES.ensures in omega (arith, h, n)

pub returns-then-holds-clause-value : goal.returns-then-holds-clause-value
returns-then-holds-clause-value g c = in_rom _ _ _ _ _ _ _ _ c.load.ensures.value (rw c.BYTES.ensures at c.holds.ensures) c.if-holds.true

pub overflow_sub-p : goal.overflow_sub-p
overflow_sub-p g c = low _ _ _ _ _ c.holds-2.ensures c.if-holds-2.true

pub load-requires-then-holds-2 : goal.load-requires-then-holds-2
load-requires-then-holds-2 g c =
    let l = low _ _ _ _ _ c.holds-2.ensures c.if-holds-2.true in
    let h = high _ _ _ _ _ c.holds-2.ensures c.if-holds-2.true in
    let n = c.BYTES-2.ensures in
    omega (arith, l, h, n)

pub returns-then-holds-2-clause-value : goal.returns-then-holds-2-clause-value
returns-then-holds-2-clause-value g c =
    in_ram _ _ _ _ _ _ _ _ c.load-then-holds-2.ensures.value (rw c.BYTES.ensures at c.holds.ensures) c.if-holds.false _
    (rw c.BYTES-2.ensures at c.holds-2.ensures) c.if-holds-2.true

pub returns-clause-value : goal.returns-clause-value
returns-clause-value g c = in_none _ _ _ _ _ _ _ (rw c.BYTES.ensures at c.holds.ensures) c.if-holds.false _ (rw c.BYTES-2.ensures at c.holds-2.ensures) c.if-holds-2.false
