use Rattle.bits.specs.Effects.{given_of}
use Rattle.bits.proofs.given.Goals as goal

pub returns-in-Bset : goal.returns-in-Bset
unfolding given_of
returns-in-Bset c = rw c.in-Bset.is

pub returns-in-Bnot : goal.returns-in-Bnot
unfolding given_of
returns-in-Bnot c = rw c.in-Bnot.is

pub returns-in-Bclr : goal.returns-in-Bclr
unfolding given_of
returns-in-Bclr c = rw c.in-Bclr.is

pub returns-in-Bst : goal.returns-in-Bst
unfolding given_of
returns-in-Bst c = rw c.in-Bst.is

pub returns-in-Bist : goal.returns-in-Bist
unfolding given_of
returns-in-Bist c = rw c.in-Bist.is
