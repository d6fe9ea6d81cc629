use Rattle.registers.specs.Parts.{part_of}
use Rattle.multiply.specs.Multiply.{divide_of, quotients_of}
use Rattle.multiply.proofs.divxu.Goals as goal

pub returns : goal.returns
unfolding divide_of quotients_of part_of
returns c = simp (c.divided.ensures, c.divxu.ensures, c.get-b.ensures, c.factor_width.ensures, c.get-a.ensures, c.product_width.ensures)
