use Rattle.routine.specs.MirrorTurn.{seen_in}
use Rattle.routine.proofs.standing.Goals as goal

pub returns-in-Ok : goal.returns-in-Ok
unfolding seen_in
returns-in-Ok c = rw c.in-Ok.is (rw (c.goes.ensures, c.next.ensures))

pub returns-in-Err : goal.returns-in-Err
unfolding seen_in
returns-in-Err c = rw c.in-Err.is
