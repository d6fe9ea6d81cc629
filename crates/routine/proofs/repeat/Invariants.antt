use Prim.Native.Nat.{ℕ, ◌-◌, ◌*◌, ◌≤◌}
use mathlib.Core.Path.{◌≡◌}
use mathlib.Core.Bool.{true, ◌&&◌}
use mathlib.Core.List.{List, []}
use lib.ListN.{length}
use Rattle.memory.specs.Board.{good_board}
use Rattle.step.specs.Step.{good_pc}
use Rattle.routine.specs.Routine.{routine_from}
use Rattle.routine.proofs.Addresses.{Carries}
use Rattle.routine.proofs.repeat.Given as goal

-- `routine::repeat` meets its contract. The invariant: the addresses are those that a run of the mode keeps, and what is left of the run is what the whole
-- run comes to. The measure is what is left of the budget. Assumes nothing.
abbrev pub invariant-loop-q : goal.invariant-loop-q
invariant-loop-q l =
    (length l.ram ≡ length l.initial.ram) × (l.steps ≤ l.budget) × (l.states ≤ l.steps * 4294967295) × (good_board l.b (length l.rom) (length l.ram) && good_pc l.q.pc ≡ true)
    × ((ks : List ℕ) × Carries l.kept ks × (routine_from l.b l.rom l.stop (l.budget - l.steps) l.ram l.q ks l.steps l.states ≡ routine_from l.b l.rom l.stop l.budget l.initial.ram l.initial.q [] 0 0))

abbrev pub decreases-loop-q : goal.decreases-loop-q
decreases-loop-q l = l.budget - l.steps
