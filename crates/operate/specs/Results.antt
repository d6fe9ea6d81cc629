-- How the result of an operation is put into the part of digit d, and which flags follow it.
use Rattle.std.specs.Prelude.{ℕ, Result, Ok, Err}
use Rattle.arith.specs.declared.Width.{Width}
use Rattle.arith.specs.declared.Sum.{Sum}
use Rattle.arith.specs.declared.Counted.{Counted}
use Rattle.arith.specs.declared.Shifted.{Shifted}
use Rattle.arith.specs.declared.Moved.{Moved}
use Rattle.refusal.specs.declared.Refusal.{Refusal}
use Rattle.registers.specs.declared.Registers.{Registers}
use Rattle.registers.specs.Condition.{with_sum, with_extended, with_counted, with_shifted, with_moved}
use Rattle.registers.specs.Parts.{with_part, with_condition}

abbrev pub summed : Width → ℕ → Registers → Sum → Registers
summed w d r x = with_condition (with_part w r d x.value) (with_sum r.condition x)

abbrev pub extended : Width → ℕ → Registers → Sum → Registers
extended w d r x = with_condition (with_part w r d x.value) (with_extended r.condition x)

abbrev pub counted : Width → ℕ → Registers → Counted → Registers
counted w d r x = with_condition (with_part w r d x.value) (with_counted r.condition x)

abbrev pub shifted : Width → ℕ → Registers → Shifted → Registers
shifted w d r x = with_condition (with_part w r d x.value) (with_shifted r.condition x)

abbrev pub moved : Width → ℕ → Registers → Moved → Registers
moved w d r x = with_condition (with_part w r d x.value) (with_moved r.condition x)

-- CMP keeps the flags and not the difference
abbrev pub compared : Registers → Sum → Registers
compared r x = with_condition r (with_sum r.condition x)

-- the registers after an instruction, and how it went
pub record Effect : Type 0 where
  pub regs : Registers
  pub outcome : Result (Unit {0}) Refusal

abbrev pub did : Registers → Effect
did r = record { regs = r; outcome = Ok tt }

abbrev pub refused : Registers → Refusal → Effect
refused r f = record { regs = r; outcome = Err f }
