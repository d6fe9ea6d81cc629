use Rattle.entry.specs.Entry.{turned}
use Rattle.execute.proofs.turned.Goals as goal

pub returns : goal.returns
unfolding turned
returns c = λ b rom ram. simp (c.done.ensures, c.next.ensures) (c.turn_short-g.ensures 2 _ b rom ram)
