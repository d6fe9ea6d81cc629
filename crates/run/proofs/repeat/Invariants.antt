use Prim.Native.Nat.{◌+◌, ◌-◌, ◌*◌, ◌≤◌}
use mathlib.Core.Path.{◌≡◌}
use mathlib.Core.Bool.{true, ◌&&◌}
use lib.ListN.{length}
use Rattle.registers.specs.Lent.{lent}
use Rattle.memory.specs.Board.{good_board}
use Rattle.step.specs.Step.{good_pc}
use Rattle.run.specs.MirrorTrail.{Last}
use Rattle.run.specs.MirrorKept.{Keeps}
use Rattle.run.specs.MirrorAlong.{along_from}
use Rattle.run.proofs.repeat.Given as goal

abbrev pub invariant-loop-pc : goal.invariant-loop-pc
invariant-loop-pc l =
    (length l.lines ≡ length l.initial.lines) × (length l.ram ≡ length l.initial.ram) × (l.steps ≤ l.budget) × (l.states ≤ 4294967295 + l.steps * 4294967295) × (along_from l.b l.rom l.stop l.records (l.budget - l.steps) l.ram (lent l.er l.pc l.f) l.steps l.states ≡ along_from l.b l.rom l.stop l.records l.budget l.initial.ram (lent l.initial.er l.initial.pc l.initial.f) 0 l.before) × (good_board l.b (length l.rom) (length l.ram) && good_pc l.pc ≡ true) × Keeps l.rom l.lines
    × (l.steps ≡ 0 → lent l.er l.pc l.f ≡ lent l.initial.er l.initial.pc l.initial.f) × ((l.steps ≡ 0 → ⊥) → Last l.b l.rom (lent l.initial.er l.initial.pc l.initial.f) l.steps (lent l.er l.pc l.f) l.trail)

abbrev pub decreases-loop-pc : goal.decreases-loop-pc
decreases-loop-pc l = l.budget - l.steps
