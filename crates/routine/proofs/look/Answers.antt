use lib.ListN.{drop_of_length-le}
use Rattle.codes.proofs.Laws.{rest_of}
use Rattle.routine.specs.MirrorTurn.{seen_in, seen_at}
use Rattle.routine.proofs.look.Goals as goal

pub returns-then-rom-at : goal.returns-then-rom-at
unfolding seen_at seen_in
returns-then-rom-at c = rw (drop_of_length-le _ c.if-rom-at.true)

pub returns : goal.returns
unfolding seen_at seen_in
returns c = let a = c.args in
    rw (c.standing.ensures, c.decode_at.ensures.mirror, rest_of a.pc a.rom.now)
