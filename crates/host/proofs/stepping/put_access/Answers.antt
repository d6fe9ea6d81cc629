use Rattle.host.proofs.Listed.{access_stored}
use Rattle.host.proofs.stepping.put_access.Goals as goal

pub returns : goal.returns
returns c = let s = c.args in access_stored s.x s.i s.answer.now c.put.ensures c.put-2.ensures (rw c.write_number.ensures at c.put-3.ensures)
