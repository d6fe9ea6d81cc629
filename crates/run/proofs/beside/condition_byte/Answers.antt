use Rattle.run.proofs.Gathered.{gathered}
use Rattle.run.proofs.beside.condition_byte.Goals as goal

pub returns : goal.returns
returns c = rw (c.upper.ensures.0, c.lower.ensures.0) (gathered _)
