use Rattle.text.proofs.Adding.{more}
use Rattle.wording.proofs.of_record.Goals as goal

pub returns : goal.returns
returns c =
    more _ _ _ _ _ c.text.ensures
    (more _ _ _ _ _ c.text-2.ensures (more _ _ _ _ _ (rw c.from.ensures at c.decimal.ensures) (more _ _ _ _ _ c.text-3.ensures c.text-4.ensures)))
