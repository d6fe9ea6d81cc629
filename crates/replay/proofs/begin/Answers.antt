use mathlib.Core.Path.{◌≡◌}
use mathlib.Core.Bool.{true, false}
use Rattle.step.specs.Step.{good_start}
use Rattle.replay.specs.Replay.{begun}
use Rattle.replay.proofs.begin.Goals as goal

pub returns-then-good_board-good_pc : goal.returns-then-good_board-good_pc
unfolding begun
returns-then-good_board-good_pc c = let s = c.args in let g : good_start s.b s.rom.now s.ram.now s.r ≡ true = cc in rw g (cc)

pub returns : goal.returns
unfolding begun
returns c = let s = c.args in let g : good_start s.b s.rom.now s.ram.now s.r ≡ false = cc in rw g (cc)
