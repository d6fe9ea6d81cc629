use Rattle.run.proofs.ended.Goals as goal

pub returns : goal.returns
returns c = simp c.outcome.ensures
