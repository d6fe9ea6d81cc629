use Rattle.text.proofs.Adding.{more}
use Rattle.asking.proofs.faults.missing.Goals as goal

pub returns : goal.returns
returns c =
    more _ _ _ _ _ (rw c.error.ensures at c.text.ensures)
    (more _ _ _ _ _ c.bytes.ensures (more _ _ _ _ _ c.text-2.ensures (more _ _ _ _ _ c.bytes-2.ensures c.byte.ensures)))
