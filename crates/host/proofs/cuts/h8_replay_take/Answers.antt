use borrow.Author.Tests.{lt-ltb, le-ltb}
use mathlib.Core.Path.{refl}
use Rattle.host.specs.Cuts.{take_call}
use Rattle.host.proofs.Carrying.{carry_on, put_beside}
use Rattle.host.proofs.cuts.h8_replay_take.Goals as goal

pub returns-then-answer-lt7 : goal.returns-then-answer-lt7
unfolding take_call
returns-then-answer-lt7 c = rw (lt-ltb _ _ c.if-answer-lt7.true)

pub returns-then-replay-lt-REPLAY : goal.returns-then-replay-lt-REPLAY
unfolding take_call
returns-then-replay-lt-REPLAY c = rw (le-ltb _ _ c.if-answer-lt7.false, lt-ltb _ _ c.if-replay-lt-REPLAY.true) (put_beside _ (carry_on c.too_short.ensures refl))

pub returns : goal.returns
unfolding take_call
returns c = rw (le-ltb _ _ c.if-answer-lt7.false, le-ltb _ _ c.if-replay-lt-REPLAY.false) c.take_lent.ensures
