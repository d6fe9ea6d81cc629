use mathlib.Core.Path.{refl, ◌∙◌}
use Rattle.registers.specs.Lent.{lent}
use Rattle.timing.specs.Made.{base_of}
use Rattle.codes.specs.declared.Reach.TheVariants.{Far}
use Rattle.codes.specs.declared.Instruction.TheVariants.{Bsr}
use Rattle.step.specs.Follow.{follow_of}
use Rattle.step.specs.Step.{effect_of}
use Rattle.transfer.proofs.Laws.{push_takes, call_acts}
use Rattle.transfer.proofs.call_far.Goals as goal

pub returns : goal.returns
unfolding base_of follow_of effect_of
returns c = record { did = λ rom. let a = c.args in (rw (c.target-to.ensures, c.next-next.ensures) at (c.called.ensures.did a.pc)) ∙ call_acts (Bsr (Far a.d)) 4 _ 6 a.er.now a.pc a.f a.b rom a.ram.now (push_takes a.b.site (lent a.er.now a.pc a.f) (Bsr (Far a.d)) refl) refl refl; told = c.called.ensures.told }
