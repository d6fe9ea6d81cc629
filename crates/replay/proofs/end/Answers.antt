use Rattle.replay.specs.Replay.{ended_of}
use Rattle.replay.proofs.end.Goals as goal

pub returns : goal.returns
unfolding ended_of
returns c = cc
