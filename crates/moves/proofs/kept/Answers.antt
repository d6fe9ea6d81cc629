use Rattle.moves.specs.MirrorMoves.{kept_of}
use Rattle.moves.proofs.kept.Goals as goal

pub returns-in-Ok : goal.returns-in-Ok
unfolding kept_of
returns-in-Ok c = simp (c.in-Ok.is, c.did.ensures)

pub returns-in-Err : goal.returns-in-Err
unfolding kept_of
returns-in-Err c = simp (c.in-Err.is, c.refused.ensures)
