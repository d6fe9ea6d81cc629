use Rattle.registers.specs.Parts.{with_part}
use Rattle.multiply.specs.Multiply.{divided_of, put_of}
use Rattle.multiply.proofs.divided.Goals as goal

pub returns-in-Some : goal.returns-in-Some
unfolding divided_of put_of with_part
returns-in-Some c = simp (c.did.ensures, c.with_product.ensures, c.put.ensures, c.product_width.ensures, c.in-Some.is)

pub returns-in-None : goal.returns-in-None
unfolding divided_of put_of with_part
returns-in-None c = simp (c.refused.ensures, c.in-None.is)
