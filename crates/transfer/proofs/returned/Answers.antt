use Rattle.memory.specs.Trail.{call_noted}
use mathlib.Core.Path.{refl, sym, ◌∙◌}
use Rattle.registers.specs.Lent.{lent}
use Rattle.registers.specs.Parts.{part_of}
use Rattle.moves.specs.Moves.{address_of, popped_of}
use Rattle.codes.specs.declared.Instruction.TheVariants.{Rts}
use Rattle.step.specs.Follow.{follow_of}
use Rattle.step.specs.Step.{effect_of}
use Rattle.turns.proofs.Laws.{done_taking, unread_acts, no_turn}
use Rattle.transfer.proofs.Laws.{rts_takes}
use Rattle.transfer.proofs.returned.Goals as goal

pub returns-in-Ok : goal.returns-in-Ok
unfolding call_noted address_of part_of follow_of effect_of
returns-in-Ok c = record { did = λ pc n. let a = c.args in rw c.done.ensures (done_taking Rts n _ a.er.now pc a.f a.b a.rom.now a.ram.now _ (rts_takes a.b.site (lent a.er.now pc a.f) _ (rw (sym c.get-at.ensures) c.access-n.ensures.0)) popped_of _ _ (rw (sym c.get-at.ensures) (sym c.read.ensures.value ∙ c.in-Ok.is)) refl c.popped.ensures); told = λ pc o. rw (c.get-at.ensures, c.in-Ok.is) at c.read.ensures.told }

pub returns-in-Err : goal.returns-in-Err
unfolding call_noted address_of part_of follow_of effect_of
returns-in-Err c = record { did = λ pc n. let a = c.args in rw c.refuse.ensures (unread_acts Rts n 0 a.er.now pc a.f a.b a.rom.now a.ram.now _ (rw (sym c.get-at.ensures) (sym c.read.ensures.value ∙ c.in-Err.is))); told = λ pc o. absurd (no_turn _ _ _ c.refuse.ensures o) }
