use mathlib.Core.Path.{◌≡◌}
use mathlib.Core.Bool.{true, false, ◌&&◌}
use lib.Dec.{eqb, leb}
use Rattle.replay.specs.Replay.{stage_taken}
use Rattle.replay.proofs.record_byte.Goals as goal

pub returns-then-p-k : goal.returns-then-p-k
unfolding stage_taken
returns-then-p-k c = let s = c.args in let g : eqb s.p.count 0 && leb 1000000 s.k.steps ≡ true = cc in rw g (cc)

pub returns : goal.returns
unfolding stage_taken
returns c = let s = c.args in let g : eqb s.p.count 0 && leb 1000000 s.k.steps ≡ false = cc in rw (g, ← c.grow.ensures) c.hold.ensures
