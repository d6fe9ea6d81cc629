use mathlib.Core.Path.{sym, ◌∙◌}
use Rattle.entry.specs.Entry.{given_at}
use Rattle.turns.proofs.Laws.{deed_done}
use Rattle.bitturns.proofs.Laws.{give_ends, given_trail}
use Rattle.bitturns.proofs.give_at.Goals as goal

pub returns : goal.returns
unfolding given_at
returns c = record { did = rw (c.ended.ensures, c.next.ensures, sym c.index_as-index.ensures, sym c.give_as.ensures) (give_ends _ _ 4 _ _ _ _ _ _ _ _ (rw (sym c.address-a.ensures) c.access-n.ensures.0) _ _ (rw (sym c.address-a.ensures) (c.give_at-e.ensures.did _))); told = λ pc o. (rw c.address-a.ensures at (c.give_at-e.ensures.told pc (deed_done _ _ _ _ c.ended.ensures o))) ∙ given_trail _ _ pc _ _ }
