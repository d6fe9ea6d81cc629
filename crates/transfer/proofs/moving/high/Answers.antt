use borrow.Author.Tests.{eq-eqb, ne_eqb}
use Rattle.transfer.specs.MirrorTransfer.{high_of}
use Rattle.transfer.proofs.moving.high.Goals as goal

pub returns-then-m-eq8 : goal.returns-then-m-eq8
unfolding high_of
returns-then-m-eq8 c = rw (eq-eqb _ _ c.if-m-eq8.true)

pub returns-else-m-eq8 : goal.returns-else-m-eq8
unfolding high_of
returns-else-m-eq8 c = rw (ne_eqb _ _ c.if-m-eq8.false)
