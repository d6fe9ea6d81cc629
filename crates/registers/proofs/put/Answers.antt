use Rattle.registers.proofs.put.Goals as goal

pub returns : goal.returns
returns c = cc
