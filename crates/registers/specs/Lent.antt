-- The registers where they lie: ER0 to ER7 as eight lent numbers, PC and the condition byte beside them. Nothing here is to be believed: a promise says it of
-- the registers that `lent` puts together.
use Rattle.std.specs.Prelude.{ℕ, ◌/◌, ◌%◌, ◌^◌, List, get_or, set}
use Rattle.arith.specs.Widths.{bits_of}
use Rattle.arith.specs.declared.Width.{Width}
use Rattle.registers.specs.declared.Condition.{Condition}
use Rattle.registers.specs.declared.Registers.{Registers}
use Rattle.registers.specs.Parts.{below_of, insert_of}

abbrev pub lent : List ℕ → ℕ → Condition → Registers
lent er pc f = record { er = er; pc = pc; condition = f }

-- as `part_of` and `with_part` of the registers put together
abbrev pub part_in : Width → List ℕ → ℕ → ℕ
part_in w er d = get_or er (d % 8) 0 / below_of w d % 2 ^ bits_of w

abbrev pub put_in : Width → List ℕ → ℕ → ℕ → List ℕ
put_in w er d x = set er (d % 8) (insert_of w d (get_or er (d % 8) 0) x)
