use borrow.Author.Tests.{lt-ltb, le-ltb}
use Rattle.bitturns.specs.MirrorBitturns.{address_in}
use Rattle.bitturns.proofs.address.Goals as goal

pub returns-then-s-lt256 : goal.returns-then-s-lt256
unfolding address_in
returns-then-s-lt256 c = rw (lt-ltb _ _ c.if-s-lt256.true) c.get.ensures

pub returns-else-s-lt256 : goal.returns-else-s-lt256
unfolding address_in
returns-else-s-lt256 c = rw (le-ltb _ _ c.if-s-lt256.false)
