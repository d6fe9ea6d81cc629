use Rattle.memory.specs.Board.{good_board}
use Rattle.memory.proofs.good_board.Goals as goal

pub returns : goal.returns
unfolding good_board
returns c = cc
