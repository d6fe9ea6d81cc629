use Rattle.arith.proofs.logic.not.Goals as goal

pub returns : goal.returns
returns c = cc
