use Rattle.arith.specs.Sums.{dec_of}
use Rattle.arith.proofs.sums.dec.Goals as goal

pub returns : goal.returns
unfolding dec_of
returns c = cc
