use Rattle.bitwork.proofs.Laws.{taken_is}
use Rattle.bitwork.proofs.took.Goals as goal

pub returns : goal.returns
returns c = λ pc. let s = c.args in taken_is s.index s.x _ pc s.er.now s.f _ (c.number-n.ensures pc _) c.bit.ensures s.take _ c.taken.ensures
