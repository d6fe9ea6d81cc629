use Rattle.host.specs.Steps.{run_left}
use Rattle.host.specs.MirrorSteps.{run_told}
use Rattle.host.proofs.Told.{beside}
use Rattle.host.proofs.stepping.run_lent.Goals as goal

pub returns : goal.returns
unfolding run_left run_told
returns c = rw (← c.board_in.ensures, ← c.run-q.ensures) (beside _ c.tell_run.ensures)
