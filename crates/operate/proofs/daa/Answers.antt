use Rattle.registers.specs.Parts.{part_of}
use Rattle.operate.specs.Operate.{decimal_of, row_of}
use Rattle.operate.proofs.daa.Goals as goal

pub returns : goal.returns
unfolding decimal_of row_of part_of
returns c = simp (c.adjusted.ensures, c.daa.ensures, c.get-x.ensures)
