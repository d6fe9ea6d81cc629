use Rattle.moves.proofs.Laws.{next_pushed, noted_stored, noted_pushed}
use Rattle.arith.specs.declared.Width.TheVariants.{Long}
use Rattle.moves.proofs.call.Goals as goal

pub returns : goal.returns
returns c = record { did = λ pc. next_pushed _ _ _ _ _ pc _ _ _ _ _ _ _ _ c.register-old.ensures (c.lower-g.ensures pc) c.get-a.ensures c.write-p.ensures.value (c.restored.ensures pc); told = λ pc o. noted_pushed _ _ pc _ _ _ _ _ Long 7 (c.lower-g.ensures pc) c.get-a.ensures (noted_stored _ _ _ _ _ _ _ pc _ (c.restored.ensures pc) c.write-p.ensures.told o) }
