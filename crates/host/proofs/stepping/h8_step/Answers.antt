use borrow.Author.Tests.{lt-ltb, le-ltb}
use mathlib.Core.Path.{refl, sym, ◌∙◌}
use native.Mathlib.Omega.{arith}
use Rattle.std.specs.Prelude.{[], Err}
use Rattle.refusal.specs.declared.Refusal.{Refusal}
use Rattle.registers.specs.declared.Registers.{Registers}
use Rattle.step.specs.Step.{step_of}
use Rattle.watch.specs.Watch.{list_of}
use Rattle.layout.specs.Board.{board_of}
use Rattle.layout.specs.Registers.{registers_of}
use Rattle.host.specs.Answers.{tell}
use Rattle.host.specs.Steps.{leaving, step_answer, step_left, step_call}
use Rattle.host.proofs.Told.{leave}
use Rattle.host.proofs.Entered.{by_refused, by_read, read_of}
use Rattle.host.proofs.Stepped.{stepped_is, not_returned}
use Rattle.host.proofs.stepping.h8_step.Goals as goal

pub returns-then-answer-lt-STEP_ANSWER : goal.returns-then-answer-lt-STEP_ANSWER
unfolding step_call
returns-then-answer-lt-STEP_ANSWER c = record { call = rw (lt-ltb _ _ c.if-answer-lt-STEP_ANSWER.true); sum = λ i m z d. absurd (omega (arith, z)); spares = λ k s. refl }

pub step_lent-requires-clause-read : goal.step_lent-requires-clause-read
step_lent-requires-clause-read c = read_of _ _ (sym c.registers.ensures.value ∙ c.in-Ok.is)

pub returns-in-Ok : goal.returns-in-Ok
unfolding step_call
returns-in-Ok c =
    let s = c.args in
    record {
      call = rw (le-ltb _ _ c.if-answer-lt-STEP_ANSWER.false) (c.step_lent.ensures.did ∙ stepped_is s.board.now s.rom.now s.ram.now s.regs.now s.answer.now ∙ sym (by_read (λ (f : Refusal). leaving s.ram.now s.regs.now (tell (step_answer (Err f) 0 []) s.answer.now)) (λ (r : Registers). step_left (step_of (board_of s.board.now) s.rom.now s.ram.now (registers_of s.regs.now)).answer.outcome (step_of (board_of s.board.now) s.rom.now s.ram.now (registers_of s.regs.now)) (list_of (board_of s.board.now) s.rom.now s.ram.now (registers_of s.regs.now)) s.ram.now s.regs.now s.answer.now) s.regs.now 0 (sym c.registers.ensures.value ∙ c.in-Ok.is)));
      sum = c.step_lent.ensures.sum;
      spares = c.step_lent.ensures.spares;
    }

pub returns-in-Err : goal.returns-in-Err
unfolding step_call
returns-in-Err c =
    let s = c.args in
    record {
      call = rw (le-ltb _ _ c.if-answer-lt-STEP_ANSWER.false) (leave c.refused_step.ensures refl refl ∙ sym (by_refused (λ (f : Refusal). leaving s.ram.now s.regs.now (tell (step_answer (Err f) 0 []) s.answer.now)) (λ (r : Registers). step_left (step_of (board_of s.board.now) s.rom.now s.ram.now (registers_of s.regs.now)).answer.outcome (step_of (board_of s.board.now) s.rom.now s.ram.now (registers_of s.regs.now)) (list_of (board_of s.board.now) s.rom.now s.ram.now (registers_of s.regs.now)) s.ram.now s.regs.now s.answer.now) s.regs.now 0 (sym c.registers.ensures.value ∙ c.in-Err.is)));
      sum = λ i m z d. absurd (not_returned _ _ c.refused_step.ensures z);
      spares = λ k s. refl;
    }
