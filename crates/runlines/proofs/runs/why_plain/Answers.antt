use Rattle.runlines.proofs.runs.why_plain.Goals as goal

pub returns-in-AtStop : goal.returns-in-AtStop
returns-in-AtStop c = rw c.in-AtStop.is c.text.ensures
