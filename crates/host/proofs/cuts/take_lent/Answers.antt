use Rattle.host.proofs.Carrying.{put_beside}
use Rattle.host.proofs.cuts.take_lent.Goals as goal

pub returns : goal.returns
returns c = rw (← c.board_in-b.ensures, ← c.replay_in-k.ensures, ← c.deliver-q.ensures) (put_beside _ c.carry.ensures)
