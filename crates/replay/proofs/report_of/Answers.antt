use Rattle.replay.specs.Replay.{end_of}
use borrow.Author.Tests.{eq-eqb, ne_eqb}
use Rattle.replay.proofs.report_of.Goals as goal

pub returns-then-p-eq0 : goal.returns-then-p-eq0
unfolding end_of
returns-then-p-eq0 c = rw (c.in-Records.is, eq-eqb _ _ c.if-p-eq0.true)

pub returns-in-Version : goal.returns-in-Version
unfolding end_of
returns-in-Version c = rw c.in-Version.is

pub returns-else-p-eq0 : goal.returns-else-p-eq0
unfolding end_of
returns-else-p-eq0 c = rw (c.in-Records.is, ne_eqb _ _ c.if-p-eq0.false) (cc)

pub returns-in-Told : goal.returns-in-Told
unfolding end_of
returns-in-Told c = rw c.in-Told.is

pub returns-in-Closed : goal.returns-in-Closed
unfolding end_of
returns-in-Closed c = rw c.in-Closed.is
