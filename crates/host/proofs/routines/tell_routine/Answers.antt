use Rattle.layout.proofs.Stored.{ten_stored}
use Rattle.host.specs.MirrorSteps.{routine_kept}
use Rattle.host.proofs.Told.{keep}
use Rattle.host.proofs.routines.tell_routine.Goals as goal

pub returns : goal.returns
unfolding routine_kept
returns c = let s = c in keep c.tell_why.ensures (ten_stored s.args.q.regs s.args.regs.now _ s.requires.0 c.put_registers.ensures)
