use native.Mathlib.Omega.{arith}
use Rattle.timing.proofs.dearest.Goals as goal

pub returns-in-Byte : goal.returns-in-Byte
returns-in-Byte c = (rw c.in-Byte.is c.dearest.ensures.0, omega (arith, c.dearest.ensures.1))

pub returns-in-Word : goal.returns-in-Word
returns-in-Word c = (rw c.in-Word.is c.dearest-in-Word.ensures.0, omega (arith, c.dearest-in-Word.ensures.1))

pub returns-in-Long : goal.returns-in-Long
returns-in-Long c = (rw (c.in-Long.is, c.dearest-word.ensures.0), omega (arith, c.dearest-word.ensures.1))
