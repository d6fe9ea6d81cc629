use Rattle.turns.proofs.Laws.{deed_done}
use mathlib.Core.Path.{sym}
use Rattle.transfer.proofs.Laws.{push_told}
use Rattle.transfer.proofs.called.Goals as goal

pub returns : goal.returns
returns c = record { did = λ pc. rw c.ended.ensures (push_told _ _ _ _ pc _ _ _ _ _ _ _ (rw (sym c.get-at.ensures) c.access.ensures.0) (c.call-e.ensures.did pc)); told = λ pc o. c.call-e.ensures.told pc (deed_done _ _ _ _ c.ended.ensures o) }
