use Rattle.runlines.proofs.routines.ended_plain.Goals as goal

pub returns-in-AtStop : goal.returns-in-AtStop
returns-in-AtStop c = rw c.in-AtStop.is c.text.ensures

pub returns-in-Ninth : goal.returns-in-Ninth
returns-in-Ninth c = rw c.in-Ninth.is c.text-in-Ninth.ensures
