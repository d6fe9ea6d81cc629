use borrow.Author.Tests.{lt-ltb, le-ltb}
use native.Mathlib.Omega.{arith}
use Rattle.registers.specs.Parts.{insert_of}
use Rattle.registers.proofs.insert.Goals as goal

pub returns-then-d-lt8 : goal.returns-then-d-lt8
unfolding insert_of
returns-then-d-lt8 c = rw (c.in-Byte.is, lt-ltb _ _ c.if-d-lt8.true)

pub returns-else-d-lt8 : goal.returns-else-d-lt8
unfolding insert_of
returns-else-d-lt8 c = rw (c.in-Byte.is, le-ltb _ _ c.if-d-lt8.false) (omega arith)

pub returns-then-d-lt8-2 : goal.returns-then-d-lt8-2
unfolding insert_of
returns-then-d-lt8-2 c = rw (c.in-Word.is, lt-ltb _ _ c.if-d-lt8-2.true) (omega arith)

pub returns-else-d-lt8-2 : goal.returns-else-d-lt8-2
unfolding insert_of
returns-else-d-lt8-2 c = rw (c.in-Word.is, le-ltb _ _ c.if-d-lt8-2.false) (omega arith)

pub returns-in-Long : goal.returns-in-Long
unfolding insert_of
returns-in-Long c = rw c.in-Long.is (omega arith)
