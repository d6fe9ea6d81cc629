use borrow.Author.Tests.{lt-ltb, le-ltb}
use Rattle.host.specs.Cuts.{start_of}
use Rattle.host.proofs.cuts.start.Goals as goal

pub returns-then-number_at-gt255 : goal.returns-then-number_at-gt255
unfolding start_of
returns-then-number_at-gt255 c = rw (← c.number_at.ensures, lt-ltb _ _ c.if-number_at-gt255.true) (cc)

pub returns : goal.returns
unfolding start_of
returns c = rw (← c.number_at.ensures, le-ltb _ _ c.if-number_at-gt255.false, ← c.board_in.ensures, ← c.registers_in-r.ensures) c.begin.ensures
