use Rattle.lines.specs.Places.{way_heading}
use Rattle.lines.proofs.places.way_heading.Goals as goal

pub returns-then-not-plain : goal.returns-then-not-plain
unfolding way_heading
returns-then-not-plain c = rw c.if-not-plain.true c.text.ensures
