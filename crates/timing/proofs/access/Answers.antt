use native.Mathlib.Omega.{arith}
use Rattle.memory.specs.Told.{accesses_at}
use Rattle.timing.specs.Made.{made_at}
use Rattle.timing.proofs.access.Goals as goal

pub returns-in-Byte : goal.returns-in-Byte
unfolding made_at accesses_at
returns-in-Byte c = (rw (c.in-Byte.is, c.cost.ensures.0, c.address.ensures) (omega arith), omega (arith, c.cost.ensures.1))

pub returns-in-Word : goal.returns-in-Word
unfolding made_at accesses_at
returns-in-Word c = (rw (c.in-Word.is, c.cost-in-Word.ensures.0, c.even_address.ensures) (omega arith), omega (arith, c.cost-in-Word.ensures.1))

pub returns-in-Long : goal.returns-in-Long
unfolding made_at accesses_at
returns-in-Long c = (rw (c.in-Long.is, c.cost-in-Long.ensures.0, c.second_address.ensures, c.cost-first.ensures.0, c.even_address-in-Long.ensures) (omega arith), omega (arith, c.cost-first.ensures.1, c.cost-in-Long.ensures.1))
