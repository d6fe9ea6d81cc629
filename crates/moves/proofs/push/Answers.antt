use Rattle.moves.proofs.Laws.{part_pushed, noted_stored, noted_pushed}
use Rattle.moves.proofs.push.Goals as goal

pub returns : goal.returns
returns c = record { did = λ pc. let a = c.args in part_pushed _ _ _ _ _ pc _ _ _ a.f _ _ _ _ a.w a.e a.s c.register-old.ensures (rw c.bytes.ensures at (c.lower-g.ensures pc)) c.get-x.ensures c.get-a.ensures c.write-p.ensures.value (rw c.flagged.ensures at (c.restored.ensures pc)); told = λ pc o. let a = c.args in noted_pushed _ _ pc _ _ _ _ _ a.w a.e (rw c.bytes.ensures at (c.lower-g.ensures pc)) c.get-a.ensures (noted_stored _ _ _ _ _ _ _ pc _ (c.restored.ensures pc) c.write-p.ensures.told o) }
