use Rattle.run.proofs.beside.four.Goals as goal

pub returns : goal.returns
returns c = rw (c.longer_by.ensures, c.longer_by-c.ensures, c.longer_by-b.ensures, c.longer_by-a.ensures)
