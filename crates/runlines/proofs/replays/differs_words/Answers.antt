use Rattle.text.proofs.Adding.{more}
use Rattle.runlines.proofs.replays.differs_words.Goals as goal

pub returns : goal.returns
returns c =
    more _ _ _ _ _ c.text.ensures
    (more _ _ _ _ _ (rw c.from.ensures at c.decimal.ensures)
    (more _ _ _ _ _ c.text-2.ensures
    (more _ _ _ _ _ (rw c.field_words.ensures at c.text-3.ensures)
    (more _ _ _ _ _ c.value.ensures (more _ _ _ _ _ c.text-4.ensures (more _ _ _ _ _ c.value-2.ensures c.text-5.ensures))))))
