use Rattle.entry.specs.Entry.{turned_long}
use Rattle.execute.proofs.turned_long.Goals as goal

pub returns : goal.returns
unfolding turned_long
returns c = λ b rom ram. simp (c.done.ensures, c.next.ensures) (c.turn_long-g.ensures 2 _ b rom ram)
