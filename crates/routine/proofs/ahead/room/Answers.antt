use Rattle.routine.specs.MirrorTurn.{room_at}
use Rattle.routine.proofs.ahead.room.Goals as goal

pub returns : goal.returns
unfolding room_at
returns c = cc
