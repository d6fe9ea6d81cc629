use Rattle.routine.specs.MirrorTurn.{followed}
use Rattle.routine.proofs.follow.Goals as goal

pub returns-in-Onward : goal.returns-in-Onward
unfolding followed
returns-in-Onward c = rw c.in-Onward.is c.make.ensures

pub returns-in-Branches : goal.returns-in-Branches
unfolding followed
returns-in-Branches c = rw c.in-Branches.is c.make-in-Branches.ensures

pub returns-in-Jumps : goal.returns-in-Jumps
unfolding followed
returns-in-Jumps c = rw c.in-Jumps.is c.make-in-Jumps.ensures

pub returns-in-CallsNear : goal.returns-in-CallsNear
unfolding followed
returns-in-CallsNear c = rw c.in-CallsNear.is c.push.ensures

pub returns-in-Calls : goal.returns-in-Calls
unfolding followed
returns-in-Calls c = rw c.in-Calls.is c.push-in-Calls.ensures

pub returns-in-Returns : goal.returns-in-Returns
unfolding followed
returns-in-Returns c = rw c.in-Returns.is c.return_to.ensures
