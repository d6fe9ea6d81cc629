use Rattle.std.proofs.Common.{refl, ◌∙◌}
use Rattle.memory.specs.Told.{accesses_at}
use Rattle.memory.proofs.Listing.{one_behind, two_behind}
use Rattle.memory.proofs.told.note.Goals as goal

pub returns-in-Byte : goal.returns-in-Byte
unfolding accesses_at
returns-in-Byte c = rw c.in-Byte.is (one_behind c.args.list.now.items _ c.requires c.push.ensures ∙ rw (c.new.ensures, c.address.ensures) refl)

pub returns-in-Word : goal.returns-in-Word
unfolding accesses_at
returns-in-Word c = rw c.in-Word.is (one_behind c.args.list.now.items _ c.requires c.push-in-Word.ensures ∙ rw (c.new-in-Word.ensures, c.even_address.ensures) refl)

pub returns-in-Long : goal.returns-in-Long
unfolding accesses_at
returns-in-Long c =
    rw c.in-Long.is
    (two_behind c.args.list.now.items _ _ _ c.requires c.push-in-Long.ensures c.push-in-Long-2.ensures
    ∙ rw (c.new-in-Long.ensures, c.new-in-Long-2.ensures, c.even_address-in-Long.ensures, c.second_address.ensures) refl)
