-- What the groups of bits are proved by. Nothing here is to be believed.
use Rattle.std.specs.Prelude.{ℕ, ◌+◌, ◌%◌, cond, List, ltb}
use Rattle.arith.specs.declared.Width.TheVariants.{Long}
use Rattle.registers.specs.Lent.{part_in}

-- the address of a byte in memory by its operand: an ER's digit, or 256 and aa:8
unfoldable pub address_in : ℕ → List ℕ → ℕ
address_in s er = cond (ltb s 256) (part_in Long er (s % 8)) (0xFFFF00 + s % 256)
