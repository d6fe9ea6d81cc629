use Rattle.arith.specs.Widths.{moved_of}
use mathlib.Core.Path.{ap}
use Rattle.arith.specs.declared.Moved.{Moved}
use Rattle.arith.proofs.shifts.shar.Goals as goal

pub returns : goal.returns
unfolding moved_of
returns c = cc (ap (λ (m : Moved). m.n) c.mov-m.ensures)
