use Rattle.lines.specs.Places.{list_heading}
use Rattle.lines.proofs.places.list_heading.Goals as goal

pub returns-then-not-plain : goal.returns-then-not-plain
unfolding list_heading
returns-then-not-plain c = rw c.if-not-plain.true c.text.ensures
