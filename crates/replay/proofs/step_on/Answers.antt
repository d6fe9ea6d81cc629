use Rattle.replay.specs.Replay.{taken, went}
use Rattle.replay.proofs.step_on.Goals as goal

pub returns-in-Ok : goal.returns-in-Ok
unfolding taken went
returns-in-Ok c = rw (← c.single-a.ensures, c.in-Ok.is) (cc)

pub returns-in-Err : goal.returns-in-Err
unfolding taken went
returns-in-Err c = rw (← c.single-a.ensures, c.in-Err.is)
