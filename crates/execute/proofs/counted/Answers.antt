use Rattle.entry.specs.Entry.{counted}
use Rattle.execute.proofs.counted.Goals as goal

pub returns : goal.returns
unfolding counted
returns c = λ b rom ram. simp (c.done.ensures, c.next.ensures) (c.counts-g.ensures 2 _ b rom ram)
