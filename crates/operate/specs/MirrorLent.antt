-- An operation done where the registers lie. Nothing here is to be believed: each says that the registers put together are those of the operation's definition.
use Rattle.std.specs.Prelude.{◌≡◌, ℕ, List, Result}
use Rattle.refusal.specs.declared.Refusal.{Refusal}
use Rattle.arith.specs.declared.Width.{Width}
use Rattle.registers.specs.declared.Condition.{Condition}
use Rattle.registers.specs.declared.Registers.{Registers}
use Rattle.registers.specs.Parts.{part_of}
use Rattle.registers.specs.Lent.{lent}
use Rattle.codes.specs.declared.Op.{Op}
use Rattle.operate.specs.declared.Deed.{Deed}
use Rattle.operate.specs.Results.{Effect}
use Rattle.operate.specs.Operate.{operated_of}

-- er and f became er' and f' as g says, whatever PC is
abbrev pub Does : (Registers → Registers) → List ℕ → List ℕ → Condition → Condition → Type 0
Does g er er' f f' = (pc : ℕ) → lent er' pc f' ≡ g (lent er pc f)

-- ADD to AND with the number s as source
abbrev pub Operates : Op → Width → ℕ → ℕ → List ℕ → List ℕ → Condition → Condition → Type 0
Operates op w s d = Does (λ r. operated_of op w (part_of w r d) s d r)

-- the condition byte alone: by itself, by a register whatever it was, and by neither
abbrev pub Marks : (Registers → Registers) → Condition → Condition → Type 0
Marks g f f' = (er : List ℕ) → Does g er er f f'

abbrev pub Replaces : (Registers → Registers) → List ℕ → Condition → Type 0
Replaces g er f' = (f : Condition) → Does g er er f f'

abbrev pub Fills : (Registers → Registers) → Condition → Type 0
Fills g f' = (f : Condition) → Marks g f f'

abbrev pub deed : Condition → Result (Unit {0}) Refusal → Deed
deed f o = record { condition = f; outcome = o }

-- the effect that lies in the registers after a deed; so a refused one has written nothing
abbrev pub effect_in : List ℕ → ℕ → Deed → Effect
effect_in er pc e = record { regs = lent er pc e.condition; outcome = e.outcome }
