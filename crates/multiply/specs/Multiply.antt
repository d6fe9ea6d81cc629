-- MULXU, MULXS, DIVXU and DIVXS in the registers (document 02, W1; manual 002, their pages of section 2.2). The source s has half the bits of the
-- destination d, and may be a part of it: both are read first. A product takes the low half of the destination as its other factor.
use Rattle.std.specs.Prelude.{ℕ, Option, Some, None}
use Rattle.arith.specs.declared.Moved.{Moved}
use Rattle.products.specs.declared.Half.{Half}
use Rattle.products.specs.Products.{half_bits, factor_width, product_width, mulxu_of, mulxs_of, divxu_of, divxs_of}
use Rattle.codes.specs.declared.Sign.{Sign}
use Rattle.codes.specs.declared.Sign.TheVariants.{Unsigned, Signed}
use Rattle.refusal.specs.declared.Refusal.TheVariants.{DivideFails}
use Rattle.registers.specs.declared.Registers.{Registers}
use Rattle.registers.specs.Condition.{with_product}
use Rattle.registers.specs.Parts.{part_of, with_part, with_condition}
use Rattle.operate.specs.Results.{Effect, did, refused}

-- the destination gets the value, and N and Z are those found
unfoldable pub put_of : Half → ℕ → Registers → Moved → Registers
put_of h d r x = with_condition (with_part (product_width h) r d x.value) (with_product r.condition x)

-- MULXU changes no flag
unfoldable pub multiply_of : Sign → Half → ℕ → ℕ → Registers → Registers
multiply_of Unsigned h s d r = with_part (product_width h) r d (mulxu_of (half_bits h) (part_of (product_width h) r d) (part_of (factor_width h) r s))
multiply_of Signed h s d r = put_of h d r (mulxs_of (half_bits h) (part_of (product_width h) r d) (part_of (factor_width h) r s))

unfoldable pub quotients_of : Sign → Half → ℕ → ℕ → Registers → Option Moved
quotients_of Unsigned h s d r = divxu_of (half_bits h) (part_of (product_width h) r d) (part_of (factor_width h) r s)
quotients_of Signed h s d r = divxs_of (half_bits h) (part_of (product_width h) r d) (part_of (factor_width h) r s)

-- refusal 14 at the instruction
unfoldable pub divided_of : Option Moved → Half → ℕ → Registers → Effect
divided_of (Some x) h d r = did (put_of h d r x)
divided_of None h d r = refused r (DivideFails r.pc)

unfoldable pub divide_of : Sign → Half → ℕ → ℕ → Registers → Effect
divide_of sign h s d r = divided_of (quotients_of sign h s d r) h d r
