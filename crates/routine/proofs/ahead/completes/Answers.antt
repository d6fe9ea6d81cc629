use Rattle.routine.specs.MirrorTurn.{completes_in}
use Rattle.routine.proofs.ahead.completes.Goals as goal

pub returns-in-Onward : goal.returns-in-Onward
unfolding completes_in
returns-in-Onward c = rw c.in-Onward.is

pub returns-in-Branches : goal.returns-in-Branches
unfolding completes_in
returns-in-Branches c = rw c.in-Branches.is

pub returns-in-Jumps : goal.returns-in-Jumps
unfolding completes_in
returns-in-Jumps c = rw c.in-Jumps.is

pub returns-in-CallsNear : goal.returns-in-CallsNear
unfolding completes_in
returns-in-CallsNear c = rw c.in-CallsNear.is (rw (c.room.ensures, c.below.ensures))

pub returns-in-Calls : goal.returns-in-Calls
unfolding completes_in
returns-in-Calls c = rw c.in-Calls.is (rw (c.aim.ensures, c.room-in-Calls.ensures, c.below-in-Calls.ensures))

pub returns-in-Returns : goal.returns-in-Returns
unfolding completes_in
returns-in-Returns c = rw c.in-Returns.is
