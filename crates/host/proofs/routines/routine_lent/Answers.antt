use Rattle.host.specs.Routines.{routine_left}
use Rattle.host.specs.MirrorSteps.{routine_kept}
use Rattle.host.proofs.Told.{beside}
use Rattle.host.proofs.routines.routine_lent.Goals as goal

pub returns : goal.returns
unfolding routine_left routine_kept
returns c = rw (← c.board_in.ensures, ← c.routine-q.ensures) (beside _ c.tell_routine.ensures)
