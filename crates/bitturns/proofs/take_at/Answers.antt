use mathlib.Core.Path.{sym, ◌∙◌}
use Rattle.entry.specs.Entry.{taken_at}
use Rattle.turns.proofs.Laws.{deed_done}
use Rattle.bitturns.proofs.Laws.{take_ends, taken_trail}
use Rattle.bitturns.proofs.take_at.Goals as goal

pub returns : goal.returns
unfolding taken_at
returns c = record { did = rw (c.ended.ensures, c.next.ensures, sym c.index_as-index.ensures, sym c.take_as.ensures) (take_ends _ _ 4 _ _ _ _ _ _ _ _ (rw (sym c.address-a.ensures) c.access-n.ensures.0) _ (rw (sym c.address-a.ensures) (c.take_at-e.ensures.did _))); told = λ pc o. (rw c.address-a.ensures at (c.take_at-e.ensures.told pc (deed_done _ _ _ _ c.ended.ensures o))) ∙ taken_trail _ _ pc _ _ }
