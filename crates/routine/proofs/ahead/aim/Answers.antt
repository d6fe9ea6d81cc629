use Rattle.routine.specs.MirrorTurn.{aims}
use borrow.Author.Rules.{rules}
use Rattle.routine.proofs.ahead.aim.Goals as goal

pub returns-in-ByReg : goal.returns-in-ByReg
unfolding aims
returns-in-ByReg c = search rules

pub returns-in-Direct : goal.returns-in-Direct
unfolding aims
returns-in-Direct c = search rules

pub returns-in-Vector : goal.returns-in-Vector
unfolding aims
returns-in-Vector c = rw c.in-Vector.is (rw (c.was_read.ensures, c.look.ensures))
