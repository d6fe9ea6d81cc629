use Rattle.turns.proofs.Laws.{deed_done}
use mathlib.Core.Path.{sym}
use borrow.Author.Tests.{lt-ltb, le-ltb}
use Rattle.transfer.proofs.Laws.{step_loads, step_stores}
use Rattle.transfer.proofs.moving.step_long.Goals as goal

pub returns-then-k-lt8 : goal.returns-then-k-lt8
returns-then-k-lt8 c = let a = c.args in record { did = rw (lt-ltb _ _ c.if-k-lt8.true, c.ended.ensures, c.next-next.ensures) (step_loads _ _ _ a.ram.now _ _ _ _ _ _ _ _ _ 4 (rw (sym c.get-at.ensures) c.access.ensures.0) (c.pop-d.ensures.did a.pc)); told = rw (lt-ltb _ _ c.if-k-lt8.true) (λ pc o. c.pop-d.ensures.told pc (deed_done _ _ _ _ c.ended.ensures o)) }

pub returns-else-k-lt8 : goal.returns-else-k-lt8
returns-else-k-lt8 c = let a = c.args in record { did = rw (le-ltb _ _ c.if-k-lt8.false, c.ended-else-k-lt8.ensures, c.next-next.ensures) (step_stores _ _ _ _ _ _ _ _ _ _ _ _ _ 4 (rw (sym c.get-at-else-k-lt8.ensures) c.access-else-k-lt8.ensures.0) (c.push-d.ensures.did a.pc)); told = rw (le-ltb _ _ c.if-k-lt8.false) (λ pc o. c.push-d.ensures.told pc (deed_done _ _ _ _ c.ended-else-k-lt8.ensures o)) }
