-- Without records a run along them is a run. Assumes nothing.
use Prim.Native.Nat.{ℕ, zero, suc, ◌+◌, ◌*◌, ◌/◌, ◌≤◌}
use mathlib.Core.Path.{◌≡◌, refl}
use mathlib.Core.Bool.{Bool, true, false, cond}
use mathlib.Core.List.{List, []}
use native.Mathlib.Omega.{arith}
use borrow.Author.Tests.{ltb-false}
use lib.Dec.{ltb}
use Rattle.registers.specs.declared.Registers.{Registers}
use Rattle.memory.specs.declared.Board.{Board}
use Rattle.step.specs.Step.{step_of}
use Rattle.run.specs.Run.{run_from, run_of}
use Rattle.run.specs.MirrorAlong.{strays_of, along_from, start_of, fewer_of}

module _ (b : Board) (rom : List ℕ) (stop : ℕ) where
  from_alone : (n : ℕ) (ram : List ℕ) (r : Registers) (steps states : ℕ) → along_from b rom stop [] n ram r steps states ≡ run_from b rom stop n ram r steps states
  unfolding along_from run_from strays_of
  from_alone zero ram r steps states = refl
  from_alone (suc n) ram r steps states =
      rw (from_alone n (step_of b rom ram r).mem (step_of b rom ram r).answer.regs (steps + 1) (states + (step_of b rom ram r).answer.states))

  pub alone : (budget : ℕ) (ram : List ℕ) (r : Registers) → start_of b rom ram r stop budget [] 0 ≡ run_of b rom ram r stop budget
  unfolding start_of run_of
  alone budget ram r = rw (from_alone budget ram r 0 0)

-- the records that are counted are there
pub counted : (l m : ℕ) → fewer_of (l / 11) m * 11 ≤ l
counted l m = by (ltb (l / 11) m) refl
  where
    by : (t : Bool) → ltb (l / 11) m ≡ t → cond t (l / 11) m * 11 ≤ l
    by true e = omega arith
    by false e = omega (arith, ltb-false (l / 11) m e)
