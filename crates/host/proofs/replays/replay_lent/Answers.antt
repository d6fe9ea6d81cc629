use Rattle.host.specs.Replays.{replay_left}
use Rattle.host.specs.MirrorReplays.{replay_told}
use Rattle.host.proofs.Told.{beside}
use Rattle.host.proofs.replays.replay_lent.Goals as goal

pub returns : goal.returns
unfolding replay_left replay_told
returns c = rw (← c.board_in.ensures, ← c.replay-q.ensures) (beside _ c.tell_replay.ensures)
