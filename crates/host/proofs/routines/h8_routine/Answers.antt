use borrow.Author.Tests.{lt-ltb, le-ltb}
use mathlib.Core.Path.{refl, sym, ◌∙◌}
use Rattle.refusal.specs.declared.Refusal.{Refusal}
use Rattle.registers.specs.declared.Registers.{Registers}
use Rattle.routine.specs.Routine.{routine_of}
use Rattle.layout.specs.Board.{board_of}
use Rattle.host.specs.Steps.{leaving}
use Rattle.host.specs.Routines.{unrun, routine_left, routine_call}
use Rattle.host.proofs.Told.{leave}
use Rattle.host.proofs.Entered.{by_refused, by_read}
use Rattle.host.proofs.routines.h8_routine.Goals as goal

pub returns-then-answer-lt15 : goal.returns-then-answer-lt15
unfolding routine_call
returns-then-answer-lt15 c = rw (lt-ltb _ _ c.if-answer-lt15.true)

pub returns-in-Ok : goal.returns-in-Ok
unfolding routine_call
returns-in-Ok c =
    let s = c.args in
    rw (le-ltb _ _ c.if-answer-lt15.false) (c.routine_lent.ensures ∙ sym (by_read (λ (f : Refusal). leaving s.ram.now s.regs.now (unrun f s.answer.now)) (λ (r : Registers). routine_left (routine_of (board_of s.board.now) s.rom.now s.ram.now r s.stop s.budget) s.regs.now s.answer.now) s.regs.now s.budget (sym c.registers.ensures.value ∙ c.in-Ok.is)))

pub returns-in-Err : goal.returns-in-Err
unfolding routine_call
returns-in-Err c =
    let s = c.args in
    rw (le-ltb _ _ c.if-answer-lt15.false) (leave c.not_run.ensures refl refl ∙ sym (by_refused (λ (f : Refusal). leaving s.ram.now s.regs.now (unrun f s.answer.now)) (λ (r : Registers). routine_left (routine_of (board_of s.board.now) s.rom.now s.ram.now r s.stop s.budget) s.regs.now s.answer.now) s.regs.now s.budget (sym c.registers.ensures.value ∙ c.in-Err.is)))
