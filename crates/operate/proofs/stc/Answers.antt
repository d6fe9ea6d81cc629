use Rattle.registers.specs.Parts.{with_part}
use Rattle.operate.specs.Operate.{stc_of}
use Rattle.operate.proofs.stc.Goals as goal

pub returns : goal.returns
unfolding stc_of with_part
returns c = λ pc. simp (c.put.ensures, c.from-2.ensures, c.from.ensures)
