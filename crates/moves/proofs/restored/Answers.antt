use Rattle.moves.specs.Moves.{stored_of}
use Rattle.moves.proofs.restored.Goals as goal

pub returns-in-Ok : goal.returns-in-Ok
unfolding stored_of
returns-in-Ok c = λ pc. simp (c.in-Ok.is, c.did.ensures)

pub returns-in-Err : goal.returns-in-Err
unfolding stored_of
returns-in-Err c = λ pc. simp (c.in-Err.is, c.refused.ensures, c.put_back.ensures)
