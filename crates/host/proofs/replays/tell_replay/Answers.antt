use Rattle.layout.proofs.Stored.{ten_stored}
use Rattle.host.specs.MirrorReplays.{replay_told}
use Rattle.host.proofs.Told.{keep}
use Rattle.host.proofs.replays.tell_replay.Goals as goal

pub returns : goal.returns
unfolding replay_told
returns c = let s = c in keep c.tell_report.ensures (ten_stored s.args.q.replay.regs s.args.regs.now _ s.requires.0 c.put_registers.ensures)
