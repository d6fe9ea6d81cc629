use Rattle.arith.proofs.low_bits.Goals as goal

pub returns : goal.returns
returns c = cc
