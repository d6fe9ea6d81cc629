use mathlib.Core.Path.{refl, sym, ap, ◌∙◌}
use native.Mathlib.Omega.{arith}
use Rattle.step.specs.declared.StepAnswer.{StepAnswer}
use Rattle.run.specs.Run.{Ran}
use Rattle.run.proofs.Lines.{none_kept}
use Rattle.run.proofs.Alone.{alone}
use Rattle.run.proofs.One.{one, single_is, one_told}
use Rattle.run.proofs.watched.Goals as goal

pub start-k-requires : goal.start-k-requires
start-k-requires c = (none_kept _ _ refl, record { there = λ h. absurd (omega (arith, h)) })

pub returns : goal.returns
returns c = let a = c.args in
    let k = c.start-k in
    let e = k.ensures.did ∙ alone a.b a.rom.now 1 1 a.ram.now a.r in record { did = rw c.ended.ensures (ap (λ (x : Ran). one x) e ∙ single_is a.b a.rom.now a.ram.now a.r); told = λ o. one_told a.b a.rom.now a.ram.now _ a.r k.result e k.ensures.told (ap (λ (x : StepAnswer). x.outcome) (sym c.ended.ensures) ∙ o) }
