use Rattle.moves.proofs.flagged.Goals as goal

pub returns : goal.returns
returns c = simp (c.with_moved.ensures, c.mov.ensures)
