use Rattle.text.proofs.Adding.{more}
use Rattle.wording.proofs.upward.Goals as goal

pub returns : goal.returns
returns c =
    rw (← (rw c.no_ports.ensures at c.flow_at-f.ensures), ← c.back.ensures)
    (more _ _ _ _ _ c.at_place.ensures (more _ _ _ _ _ c.text.ensures (more _ _ _ _ _ c.place.ensures c.text-2.ensures)))
