use Rattle.text.proofs.Adding.{more}
use Rattle.runlines.proofs.routines.elsewhere_words.Goals as goal

pub returns : goal.returns
returns c =
    more _ _ _ _ _ c.text.ensures
    (more _ _ _ _ _ c.place.ensures (more _ _ _ _ _ c.text-2.ensures (more _ _ _ _ _ c.place-2.ensures c.byte.ensures)))
