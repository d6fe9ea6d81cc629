use Rattle.turns.specs.MirrorTurn.{ended_of}
use Rattle.turns.proofs.ended.Goals as goal

pub returns-in-Ok : goal.returns-in-Ok
unfolding ended_of
returns-in-Ok c = simp (c.in-Ok.is, c.done.ensures)

pub returns-in-Err : goal.returns-in-Err
unfolding ended_of
returns-in-Err c = simp (c.in-Err.is, c.refuse.ensures)
