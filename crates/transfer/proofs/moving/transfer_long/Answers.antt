use Rattle.turns.proofs.Laws.{deed_done}
use borrow.Author.Tests.{lt-ltb, le-ltb}
use Rattle.transfer.proofs.Laws.{aim_loads, aim_stores}
use Rattle.transfer.proofs.moving.transfer_long.Goals as goal

pub returns-then-k-lt8 : goal.returns-then-k-lt8
returns-then-k-lt8 c = record { did = λ pc. let a = c.args in rw (lt-ltb _ _ c.if-k-lt8.true, c.ended.ensures) (aim_loads _ _ _ a.ram.now _ _ _ _ _ _ _ a.a c.access.ensures.0 (c.load.ensures.did pc)); told = rw (lt-ltb _ _ c.if-k-lt8.true) (λ pc o. c.load.ensures.told pc (deed_done _ _ _ _ c.ended.ensures o)) }

pub returns-else-k-lt8 : goal.returns-else-k-lt8
returns-else-k-lt8 c = record { did = λ pc. let a = c.args in rw (le-ltb _ _ c.if-k-lt8.false, c.ended-else-k-lt8.ensures) (aim_stores _ _ _ _ _ _ _ _ _ _ _ a.a c.access.ensures.0 (c.store.ensures.did pc)); told = rw (le-ltb _ _ c.if-k-lt8.false) (λ pc o. c.store.ensures.told pc (deed_done _ _ _ _ c.ended-else-k-lt8.ensures o)) }
