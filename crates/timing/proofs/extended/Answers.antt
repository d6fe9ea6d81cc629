use Rattle.timing.proofs.extended.Goals as goal

pub returns : goal.returns
returns c = simp (c.exts.ensures, c.from.ensures)
