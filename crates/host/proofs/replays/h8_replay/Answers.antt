use borrow.Author.Tests.{lt-ltb, le-ltb}
use mathlib.Core.Path.{refl, sym, ◌∙◌}
use Rattle.refusal.specs.declared.Refusal.{Refusal}
use Rattle.registers.specs.declared.Registers.{Registers}
use Rattle.replay.specs.Replay.{replay_of}
use Rattle.replay.specs.declared.Report.TheVariants.{Halted}
use Rattle.layout.specs.Board.{board_of}
use Rattle.host.specs.Answers.{tell}
use Rattle.host.specs.Steps.{leaving}
use Rattle.host.specs.Replays.{replay_answer, replay_left, replay_call}
use Rattle.host.proofs.Told.{leave}
use Rattle.host.proofs.Entered.{by_refused, by_read}
use Rattle.host.proofs.replays.h8_replay.Goals as goal

pub returns-then-answer-lt7 : goal.returns-then-answer-lt7
unfolding replay_call
returns-then-answer-lt7 c = rw (lt-ltb _ _ c.if-answer-lt7.true)

pub returns-in-Ok : goal.returns-in-Ok
unfolding replay_call
returns-in-Ok c =
    let s = c.args in
    rw (le-ltb _ _ c.if-answer-lt7.false) (c.replay_lent.ensures ∙ sym (by_read (λ (f : Refusal). leaving s.ram.now s.regs.now (tell (replay_answer (Halted f) 0 0) s.answer.now)) (λ (r : Registers). replay_left (replay_of (board_of s.board.now) s.rom.now s.ram.now r s.file.now) s.regs.now s.answer.now) s.regs.now 0 (sym c.registers.ensures.value ∙ c.in-Ok.is)))

pub returns-in-Err : goal.returns-in-Err
unfolding replay_call
returns-in-Err c =
    let s = c.args in
    rw (le-ltb _ _ c.if-answer-lt7.false) (leave c.tell_report.ensures refl refl ∙ sym (by_refused (λ (f : Refusal). leaving s.ram.now s.regs.now (tell (replay_answer (Halted f) 0 0) s.answer.now)) (λ (r : Registers). replay_left (replay_of (board_of s.board.now) s.rom.now s.ram.now r s.file.now) s.regs.now s.answer.now) s.regs.now 0 (sym c.registers.ensures.value ∙ c.in-Err.is)))
