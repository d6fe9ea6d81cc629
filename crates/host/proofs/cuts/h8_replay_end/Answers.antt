use borrow.Author.Tests.{lt-ltb, le-ltb}
use mathlib.Core.Path.{refl}
use Rattle.host.specs.Cuts.{end_call}
use Rattle.host.proofs.Carrying.{carry_on}
use Rattle.host.proofs.cuts.h8_replay_end.Goals as goal

pub returns-then-answer-lt7 : goal.returns-then-answer-lt7
unfolding end_call
returns-then-answer-lt7 c = rw (lt-ltb _ _ c.if-answer-lt7.true)

pub returns-then-replay-lt-REPLAY : goal.returns-then-replay-lt-REPLAY
unfolding end_call
returns-then-replay-lt-REPLAY c = rw (le-ltb _ _ c.if-answer-lt7.false, lt-ltb _ _ c.if-replay-lt-REPLAY.true) (carry_on c.too_short.ensures refl)

pub returns : goal.returns
unfolding end_call
returns c = rw (le-ltb _ _ c.if-answer-lt7.false, le-ltb _ _ c.if-replay-lt-REPLAY.false) c.end_lent.ensures
