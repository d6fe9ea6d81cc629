use Rattle.runlines.specs.Traces.{trace_heading}
use Rattle.runlines.proofs.traces.trace_heading.Goals as goal

pub returns-then-not-plain : goal.returns-then-not-plain
unfolding trace_heading
returns-then-not-plain c = rw c.if-not-plain.true c.text.ensures
