use Rattle.registers.specs.Parts.{with_part}
use Rattle.operate.specs.Operate.{adjusted_of, added_of}
use Rattle.operate.proofs.adjusted.Goals as goal

pub returns-in-Some : goal.returns-in-Some
unfolding adjusted_of added_of with_part
returns-in-Some c = simp (c.did.ensures, c.with_adjusted.ensures, c.put.ensures, c.mov-y.ensures, c.in-Some.is)

pub returns-in-None : goal.returns-in-None
unfolding adjusted_of added_of with_part
returns-in-None c = simp (c.refused.ensures, c.in-None.is)
