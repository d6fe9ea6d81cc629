use mathlib.Core.Path.{refl}
use Rattle.run.proofs.Lines.{none_kept}
use Rattle.run.proofs.Alone.{counted}
use Rattle.run.proofs.along.Goals as goal

pub start-k-requires : goal.start-k-requires
start-k-requires c = (none_kept _ _ refl, record { there = λ h. rw c.fewer-n.ensures (counted _ _) })

pub returns : goal.returns
returns c = rw (← c.fewer-n.ensures) c.start-k.ensures.did
