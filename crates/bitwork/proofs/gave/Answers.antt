use Rattle.bitwork.proofs.Laws.{given_is}
use Rattle.bitwork.proofs.gave.Goals as goal

pub returns : goal.returns
returns c = λ pc. let s = c.args in given_is s.index s.x _ pc s.er.now s.f _ (c.number-n.ensures pc _) c.bit.ensures s.give _ _ c.given-v.ensures c.with_bit.ensures.value
