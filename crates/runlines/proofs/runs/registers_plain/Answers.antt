use Rattle.text.proofs.Adding.{more}
use Rattle.runlines.proofs.runs.registers_plain.Goals as goal

pub returns : goal.returns
returns c =
    more _ _ _ _ _ c.text.ensures
    (more _ _ _ _ _ c.place.ensures
    (more _ _ _ _ _ c.four.ensures (more _ _ _ _ _ c.four-2.ensures (more _ _ _ _ _ c.flags_plain.ensures c.byte.ensures))))
