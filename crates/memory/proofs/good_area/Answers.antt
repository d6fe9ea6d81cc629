use Rattle.memory.proofs.good_area.Goals as goal

pub returns : goal.returns
returns c = cc
