use borrow.Author.Tests.{lt-ltb, le-ltb}
use Rattle.host.specs.MirrorCodes.{named_in}
use Rattle.host.proofs.decoding.name_in.Goals as goal

pub returns-then-fields-lt9 : goal.returns-then-fields-lt9
unfolding named_in
returns-then-fields-lt9 c = rw (lt-ltb _ _ c.if-fields-lt9.true)

pub returns : goal.returns
unfolding named_in
returns c = simp (le-ltb _ _ c.if-fields-lt9.false, c.name_of.ensures, c.row_in.ensures)
