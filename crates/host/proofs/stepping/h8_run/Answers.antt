use borrow.Author.Tests.{lt-ltb, le-ltb}
use mathlib.Core.Path.{refl, sym, ◌∙◌}
use Rattle.refusal.specs.declared.Refusal.{Refusal}
use Rattle.registers.specs.declared.Registers.{Registers}
use Rattle.run.specs.declared.Ending.TheVariants.{Halted}
use Rattle.run.specs.Run.{run_of}
use Rattle.layout.specs.Board.{board_of}
use Rattle.host.specs.Answers.{tell}
use Rattle.host.specs.Steps.{leaving, run_answer, run_left, run_call}
use Rattle.host.proofs.Told.{leave}
use Rattle.host.proofs.Entered.{by_refused, by_read}
use Rattle.host.proofs.stepping.h8_run.Goals as goal

pub returns-then-answer-lt6 : goal.returns-then-answer-lt6
unfolding run_call
returns-then-answer-lt6 c = rw (lt-ltb _ _ c.if-answer-lt6.true)

pub returns-in-Ok : goal.returns-in-Ok
unfolding run_call
returns-in-Ok c =
    let s = c.args in
    rw (le-ltb _ _ c.if-answer-lt6.false) (c.run_lent.ensures ∙ sym (by_read (λ (f : Refusal). leaving s.ram.now s.regs.now (tell (run_answer (Halted f) 0 0) s.answer.now)) (λ (r : Registers). run_left (run_of (board_of s.board.now) s.rom.now s.ram.now r s.stop s.budget) s.regs.now s.answer.now) s.regs.now s.budget (sym c.registers.ensures.value ∙ c.in-Ok.is)))

pub returns-in-Err : goal.returns-in-Err
unfolding run_call
returns-in-Err c =
    let s = c.args in
    rw (le-ltb _ _ c.if-answer-lt6.false) (leave c.tell_ending.ensures refl refl ∙ sym (by_refused (λ (f : Refusal). leaving s.ram.now s.regs.now (tell (run_answer (Halted f) 0 0) s.answer.now)) (λ (r : Registers). run_left (run_of (board_of s.board.now) s.rom.now s.ram.now r s.stop s.budget) s.regs.now s.answer.now) s.regs.now s.budget (sym c.registers.ensures.value ∙ c.in-Err.is)))
