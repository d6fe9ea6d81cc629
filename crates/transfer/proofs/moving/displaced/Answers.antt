use Rattle.transfer.proofs.moving.displaced.Goals as goal

pub returns : goal.returns
returns c = simp (c.add.ensures, c.extended.ensures)
