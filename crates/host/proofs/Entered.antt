-- What four calls do with lent registers, by what the code finds of them.
use Rattle.std.specs.Prelude.{Result, Ok, Err}
use mathlib.Core.Path.{◌≡◌}
use mathlib.Core.Bool.{Bool, true, false, cond}
use mathlib.Core.List.{List}
use Prim.Native.Nat.{ℕ}
use lib.Dec.{ltb}
use lib.ListN.{length, get_or}
use Rattle.refusal.specs.declared.Refusal.{Refusal}
use Rattle.refusal.specs.declared.Refusal.TheVariants.{BadBoard, BudgetTooLarge, LentTooShort}
use Rattle.registers.specs.declared.Registers.{Registers}
use Rattle.layout.specs.Registers.{registers_length, registers_of}
use Rattle.host.specs.MirrorAnswers.{lent_registers}

abbrev found : Bool → Bool → Bool → Registers → Result Registers Refusal
found a b c r = cond a (Err (LentTooShort registers_length)) (cond b (Err BudgetTooLarge) (cond c (Err BadBoard) (Ok r)))

module _ {X : Type 0} (bad : Refusal → X) (good : Registers → X) where
  abbrev chosen : Bool → Bool → Bool → Registers → X
  chosen a b c r = cond a (bad (LentTooShort registers_length)) (cond b (bad BudgetTooLarge) (cond c (bad BadBoard) (good r)))

  abbrev pub by_lent : List ℕ → ℕ → X
  by_lent regs budget = chosen (ltb (length regs) registers_length) (ltb 1000000 budget) (ltb 255 (get_or regs 9 0)) (registers_of regs)

  refused : (a b c : Bool) (r : Registers) {f : Refusal} → found a b c r ≡ Err f → chosen a b c r ≡ bad f
  refused true b c r e = cc
  refused false true c r e = cc
  refused false false true r e = cc
  refused false false false r e = cc

  read : (a b c : Bool) (r : Registers) {s : Registers} → found a b c r ≡ Ok s → chosen a b c r ≡ good s
  read true b c r e = cc
  read false true c r e = cc
  read false false true r e = cc
  read false false false r e = cc

  module _ (regs : List ℕ) (budget : ℕ) where
    pub by_refused : {f : Refusal} → lent_registers regs budget ≡ Err f → by_lent regs budget ≡ bad f
    unfolding lent_registers
    by_refused e = refused (ltb (length regs) registers_length) (ltb 1000000 budget) (ltb 255 (get_or regs 9 0)) (registers_of regs) e

    pub by_read : {r : Registers} → lent_registers regs budget ≡ Ok r → by_lent regs budget ≡ good r
    unfolding lent_registers
    by_read e = read (ltb (length regs) registers_length) (ltb 1000000 budget) (ltb 255 (get_or regs 9 0)) (registers_of regs) e

read_is : (a b c : Bool) (r : Registers) {s : Registers} → found a b c r ≡ Ok s → s ≡ r
read_is true b c r e = cc
read_is false true c r e = cc
read_is false false true r e = cc
read_is false false false r e = cc

-- the registers that are read are those that are lent
pub read_of : (regs : List ℕ) (budget : ℕ) {r : Registers} → lent_registers regs budget ≡ Ok r → r ≡ registers_of regs
unfolding lent_registers
read_of regs budget e = read_is (ltb (length regs) registers_length) (ltb 1000000 budget) (ltb 255 (get_or regs 9 0)) (registers_of regs) e
