use Rattle.moves.specs.Moves.{address_of}
use Rattle.memory.specs.Trail.{call_noted}
use mathlib.Core.Path.{refl, sym, ◌∙◌}
use Rattle.registers.specs.Lent.{lent}
use Rattle.codes.specs.declared.Target.TheVariants.{Vector}
use Rattle.codes.specs.declared.Instruction.TheVariants.{Jsr}
use Rattle.step.specs.Follow.{aim_of, follow_of}
use Rattle.step.specs.Step.{effect_of}
use Rattle.turns.proofs.Laws.{unread_acts, no_turn}
use Rattle.transfer.proofs.Laws.{jsr_takes, call_acts}
use Rattle.transfer.proofs.call_vector.Goals as goal

pub returns-in-Ok : goal.returns-in-Ok
unfolding call_noted address_of aim_of follow_of effect_of
returns-in-Ok c = let a = c.args in record { did = (rw c.next.ensures at (c.called.ensures.did a.pc)) ∙ call_acts (Jsr (Vector a.a)) 2 _ _ a.er.now a.pc a.f a.b a.rom.now a.ram.now (jsr_takes a.b.site (lent a.er.now a.pc a.f) _ a.a c.access-n.ensures.0) (sym c.read.ensures.value ∙ c.in-Ok.is) refl; told = λ pc o. rw (rw c.in-Ok.is at c.read.ensures.told) at (c.called.ensures.told pc o) }

pub returns-in-Err : goal.returns-in-Err
unfolding call_noted address_of aim_of follow_of effect_of
returns-in-Err c = let a = c.args in record { did = rw c.refuse.ensures (unread_acts (Jsr (Vector a.a)) 2 0 a.er.now a.pc a.f a.b a.rom.now a.ram.now _ (sym c.read.ensures.value ∙ c.in-Err.is)); told = λ pc o. absurd (no_turn _ _ _ c.refuse.ensures o) }
