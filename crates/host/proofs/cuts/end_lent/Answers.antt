use Rattle.host.proofs.cuts.end_lent.Goals as goal

pub returns : goal.returns
returns c = rw (← c.replay_in.ensures, ← c.end-q.ensures) c.carry.ensures
