use Rattle.registers.specs.Parts.{part_of, with_part}
use Rattle.multiply.specs.Multiply.{multiply_of}
use Rattle.multiply.proofs.mulxu.Goals as goal

pub returns : goal.returns
unfolding multiply_of part_of with_part
returns c = λ pc. simp (c.put.ensures, c.mulxu.ensures, c.get-b.ensures, c.factor_width.ensures, c.get-a.ensures, c.product_width-w.ensures)
