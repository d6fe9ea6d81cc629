use Rattle.arith.proofs.logic.extu.Goals as goal

pub returns : goal.returns
returns c = cc
