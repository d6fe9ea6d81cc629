use Rattle.memory.proofs.Trails.{call_few}
use Rattle.memory.proofs.told.unpack.Goals as goal

pub returns-clause-few : goal.returns-clause-few
returns-clause-few c = rw (c.tell.ensures, c.new-list.ensures) (call_few _)
