use Rattle.host.specs.Answers.{refuse}
use Rattle.host.specs.MirrorCodes.{tell_of}
use Rattle.host.proofs.Told.{headed_told, refused_told}
use Rattle.host.proofs.decoding.tell_encoded.Goals as goal

pub returns-in-Ok : goal.returns-in-Ok
unfolding tell_of
returns-in-Ok c = rw c.in-Ok.is (headed_told _ _ c.told.ensures.number c.told.ensures.answer)

pub returns-in-Err : goal.returns-in-Err
unfolding tell_of refuse
returns-in-Err c = rw c.in-Err.is (refused_told _ _ c.told-in-Err.ensures.number c.told-in-Err.ensures.answer _ c.from.ensures)
