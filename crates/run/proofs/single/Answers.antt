use Rattle.run.proofs.single.Goals as goal

pub returns : goal.returns
returns c = c.watched.ensures.did
