use native.Mathlib.Omega.{arith}
use Rattle.arith.proofs.Once.{num_le}
use Rattle.memory.specs.Trail.{first_of, touch_of}
use Rattle.memory.proofs.touch.Goals as goal

pub returns-in-Byte : goal.returns-in-Byte
unfolding first_of touch_of
returns-in-Byte c = let l = num_le c.args.write in (rw c.in-Byte.is (omega arith), omega arith)

pub returns-in-Word : goal.returns-in-Word
unfolding first_of touch_of
returns-in-Word c = let l = num_le c.args.write in (rw c.in-Word.is (omega arith), omega arith)

pub returns-in-Long : goal.returns-in-Long
unfolding first_of touch_of
returns-in-Long c = let l = num_le c.args.write in (rw c.in-Long.is (omega arith), omega arith)
