use Rattle.std.proofs.Common.{rules, arith}
use Rattle.text.proofs.Room.{room_left}
use Rattle.text.proofs.buffer.Line.byte.Goals as goal

pub invariant_of-self : goal.invariant_of-self
invariant_of-self c = (omega arith, search rules, room_left _ _ _ c.self.invariant.2)
