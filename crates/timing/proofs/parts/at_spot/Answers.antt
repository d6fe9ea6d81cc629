use Rattle.timing.proofs.parts.at_spot.Goals as goal

pub returns-in-AtEr : goal.returns-in-AtEr
returns-in-AtEr c = (rw c.in-AtEr.is c.most.ensures.0, c.most.ensures.1)

pub returns-in-AtAbs : goal.returns-in-AtAbs
returns-in-AtAbs c = (rw c.in-AtAbs.is c.most-in-AtAbs.ensures.0, c.most-in-AtAbs.ensures.1)
