use mathlib.Core.Path.{◌∙◌}
use lib.ListN.{drop_of_length-le}
use Rattle.listing.specs.Listing.{decoded_at}
use Rattle.listing.proofs.Part.{part_decoded}
use Rattle.wording.proofs.decoded.Goals as goal

pub returns-then-at-rom : goal.returns-then-at-rom
unfolding decoded_at
returns-then-at-rom c = c.decode_at.ensures.mirror ∙ part_decoded c.args.rom.now c.args.p

pub returns-else-at-rom : goal.returns-else-at-rom
unfolding decoded_at
returns-else-at-rom c = rw (drop_of_length-le _ c.if-at-rom.false) c.decode_at-else-at-rom.ensures.mirror
