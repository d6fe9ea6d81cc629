use Rattle.moves.specs.Moves.{address_of}
use Rattle.memory.specs.Trail.{call_noted}
use mathlib.Core.Path.{refl, sym, ◌∙◌}
use Rattle.registers.specs.declared.Registers.{Registers}
use Rattle.registers.specs.Lent.{lent}
use Rattle.codes.specs.declared.Target.TheVariants.{Vector}
use Rattle.codes.specs.declared.Instruction.TheVariants.{Jmp}
use Rattle.step.specs.Follow.{aim_of, follow_of}
use Rattle.step.specs.Step.{effect_of}
use Rattle.turns.proofs.Laws.{done_taking, unread_acts, no_turn}
use Rattle.transfer.proofs.Laws.{jmp_takes}
use Rattle.transfer.proofs.jump_vector.Goals as goal

pub returns-in-Ok : goal.returns-in-Ok
unfolding call_noted address_of aim_of follow_of effect_of
returns-in-Ok c = record { did = λ pc n. let a = c.args in rw c.done.ensures (done_taking (Jmp (Vector a.a)) n _ a.er.now pc a.f a.b a.rom.now a.ram.now _ (jmp_takes a.b.site (lent a.er.now pc a.f) _ a.a c.access.ensures.0) (λ (r : Registers). r) _ _ (sym c.read.ensures.value ∙ c.in-Ok.is) refl (λ _. refl)); told = λ pc o. rw c.in-Ok.is at c.read.ensures.told }

pub returns-in-Err : goal.returns-in-Err
unfolding call_noted address_of aim_of follow_of effect_of
returns-in-Err c = record { did = λ pc n. let a = c.args in rw c.refuse.ensures (unread_acts (Jmp (Vector a.a)) n 0 a.er.now pc a.f a.b a.rom.now a.ram.now _ (sym c.read.ensures.value ∙ c.in-Err.is)); told = λ pc o. absurd (no_turn _ _ _ c.refuse.ensures o) }
