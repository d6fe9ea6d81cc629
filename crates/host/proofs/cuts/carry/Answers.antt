use Rattle.host.specs.Cuts.{carried_on}
use Rattle.host.proofs.Carrying.{carry_on, numbers_stored}
use Rattle.host.proofs.cuts.carry.Goals as goal

pub returns : goal.returns
unfolding carried_on
returns c = let s = c in carry_on c.tell_said.ensures (numbers_stored s.args.k s.args.replay.now _ s.requires.0 c.put_replay.ensures)
