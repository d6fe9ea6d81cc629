use mathlib.Core.Path.{sym}
use Rattle.entry.specs.Entry.{taken_in}
use Rattle.bitturns.proofs.Laws.{take_turns}
use Rattle.bitturns.proofs.take.Goals as goal

pub returns : goal.returns
unfolding taken_in
returns c = λ b rom ram. rw (c.done.ensures, c.next.ensures, sym c.index_as-index.ensures, sym c.take_as.ensures) (take_turns _ _ 2 _ _ _ _ _ c.take-g.ensures b rom ram)
