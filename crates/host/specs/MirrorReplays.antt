-- The same as the code finds it. Nothing to believe.
use Rattle.std.specs.Prelude.{ℕ, List}
use Rattle.replay.specs.declared.Ended.{Ended}
use Rattle.replay.specs.Replay.{field_number}
use Rattle.replay.specs.declared.Report.{Report}
use Rattle.replay.specs.declared.Report.TheVariants.{Agreed, Differs, Halted}
use Rattle.layout.specs.Lent.{overwrite}
use Rattle.layout.specs.Registers.{ten_of}
use Rattle.host.specs.Answers.{tell}
use Rattle.host.specs.declared.answers.Head.{Head}
use Rattle.host.specs.MirrorAnswers.{done, head_of}
use Rattle.host.specs.Replays.{replay_answer}
use Rattle.host.specs.MirrorSteps.{Kept, keeping}

-- the head of a report, its number, and the field that differs
unfoldable pub numbered_report : Report → Head × ℕ × ℕ
numbered_report Agreed = (done, 0, 0)
numbered_report (Differs f) = (done, 1, field_number f)
numbered_report (Halted f) = (head_of f, 2, 0)

unfoldable pub replay_told : Ended → List ℕ → List ℕ → Kept
replay_told q regs answer =
    keeping (overwrite (ten_of q.replay.regs) regs) (tell (replay_answer q.report q.replay.steps q.replay.states) answer)
