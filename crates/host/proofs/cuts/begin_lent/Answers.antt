use Rattle.host.proofs.cuts.begin_lent.Goals as goal

pub returns : goal.returns
returns c = rw (← c.start-k.ensures, ← c.said_of-s.ensures) c.carry.ensures
