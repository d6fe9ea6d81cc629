use Rattle.replay.specs.Replay.{replay_of}
use Rattle.replay.proofs.replay.Goals as goal

pub returns : goal.returns
unfolding replay_of
returns c = rw (← c.begin-k.ensures, ← c.feed-q.ensures, c.end.ensures)
