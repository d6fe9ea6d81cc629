use Rattle.layout.proofs.Stored.{ten_stored}
use Rattle.host.specs.MirrorSteps.{run_told}
use Rattle.host.proofs.Told.{keep}
use Rattle.host.proofs.stepping.tell_run.Goals as goal

pub returns : goal.returns
unfolding run_told
returns c = let s = c in keep c.tell_ending.ensures (ten_stored s.args.q.regs s.args.regs.now _ s.requires.0 c.put_registers.ensures)
