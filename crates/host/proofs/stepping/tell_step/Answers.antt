use mathlib.Core.Path.{refl}
use Rattle.layout.proofs.Stored.{ten_stored}
use Rattle.host.specs.MirrorSteps.{step_told}
use Rattle.host.specs.Steps.{step_answer}
use Rattle.host.proofs.Told.{keep}
use Rattle.host.proofs.stepping.tell_step.Goals as goal

pub returns-in-Ok : goal.returns-in-Ok
unfolding step_told step_answer
returns-in-Ok c = let s = c in rw c.in-Ok.is (keep c.told_step.ensures (ten_stored s.args.q.regs s.args.regs.now _ s.requires.0 c.put_registers.ensures))

pub returns-in-Err : goal.returns-in-Err
unfolding step_told step_answer
returns-in-Err c = rw c.in-Err.is (keep c.refused_step.ensures refl)
