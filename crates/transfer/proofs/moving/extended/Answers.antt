use Rattle.transfer.proofs.moving.extended.Goals as goal

pub returns : goal.returns
returns c = simp c.exts.ensures
