use mathlib.Core.Path.{ap}
use native.Mathlib.Omega.{arith}
use Rattle.run.specs.Run.{Ran}
use Rattle.replay.specs.MirrorReplay.{beyond}
use Rattle.replay.proofs.Passes.{passed_steps}
use Rattle.replay.proofs.passed.Goals as goal

pub overflow_add-result : goal.overflow_add-result
overflow_add-result c = let a = c.args in let e = ap (λ (x : Ran). x.answer.steps) c.along-a.ensures in omega (arith, passed_steps a.b a.rom.now a.bytes.now a.k a.ram.now c.requires.0 c.requires.1, e, c.requires.0)

pub returns : goal.returns
returns c = let a = c.args in rw c.none.ensures (ap (λ (x : Ran). beyond a.k.steps x) c.along-a.ensures)
