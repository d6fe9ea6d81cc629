use Rattle.host.specs.Cuts.{said_answer}
use Rattle.host.proofs.Told.{headed_told}
use Rattle.host.proofs.cuts.tell_said.Goals as goal

pub returns-in-None : goal.returns-in-None
unfolding said_answer
returns-in-None c = rw c.in-None.is (headed_told _ _ c.told.ensures.number c.told.ensures.answer)

pub returns-in-Some : goal.returns-in-Some
unfolding said_answer
returns-in-Some c = rw c.in-Some.is c.tell_report.ensures
