use mathlib.Core.Path.{sym}
use Rattle.entry.specs.Entry.{given_in}
use Rattle.bitturns.proofs.Laws.{give_turns}
use Rattle.bitturns.proofs.give.Goals as goal

pub returns : goal.returns
unfolding given_in
returns c = λ b rom ram. rw (c.done.ensures, c.next.ensures, sym c.index_as-index.ensures, sym c.give_as.ensures) (give_turns _ _ 2 _ _ _ _ _ _ c.give-g.ensures b rom ram)
