use mathlib.Core.Path.{refl, ◌∙◌}
use native.Mathlib.Omega.{arith}
use Rattle.run.proofs.Lines.{none_kept}
use Rattle.run.proofs.Alone.{alone}
use Rattle.run.proofs.run.Goals as goal

pub start-k-requires : goal.start-k-requires
start-k-requires c = (none_kept _ _ refl, record { there = λ h. absurd (omega (arith, h)) })

pub returns : goal.returns
returns c = let a = c.args in c.start-k.ensures.did ∙ alone a.b a.rom.now a.stop a.budget a.ram.now a.r
