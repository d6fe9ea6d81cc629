use Rattle.left.proofs.unheld.Goals as goal

pub returns : goal.returns
returns c = rw (c.refusal.ensures, c.group.ensures)
