use Rattle.run.proofs.outcome.Goals as goal

pub returns-in-Halted : goal.returns-in-Halted
returns-in-Halted c = simp c.in-Halted.is
