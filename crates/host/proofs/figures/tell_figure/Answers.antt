use Rattle.host.specs.Answers.{refuse}
use Rattle.host.specs.Figures.{figure_told}
use Rattle.host.proofs.Told.{headed_told, refused_told}
use Rattle.host.proofs.figures.tell_figure.Goals as goal

pub returns-in-Ok : goal.returns-in-Ok
unfolding figure_told
returns-in-Ok c = rw c.in-Ok.is (headed_told _ _ c.told.ensures.number c.told.ensures.answer)

pub returns-in-Err : goal.returns-in-Err
unfolding figure_told refuse
returns-in-Err c = rw c.in-Err.is (refused_told _ _ c.told-in-Err.ensures.number c.told-in-Err.ensures.answer _ c.from.ensures)
