use Rattle.memory.specs.Board.{could_carry}
use Rattle.memory.proofs.could_carry.Goals as goal

pub returns : goal.returns
unfolding could_carry
returns c = cc
