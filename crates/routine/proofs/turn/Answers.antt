use Rattle.routine.specs.MirrorTurn.{turn_in}
use Rattle.routine.proofs.turn.Goals as goal

pub returns-then-ninth : goal.returns-then-ninth
unfolding turn_in
returns-then-ninth c = rw (← c.look-s.ensures, ← c.ninth.ensures, c.if-ninth.true) (cc c.stay.ensures)

pub returns : goal.returns
unfolding turn_in
returns c = let s = c in
    rw (← s.look-s.ensures, ← s.ninth.ensures, s.if-ninth.false, ← s.single-a.ensures) (cc c.by_outcome.ensures)
