use Rattle.text.proofs.Adding.{more}
use Rattle.runlines.proofs.routines.ninth_words.Goals as goal

pub returns : goal.returns
returns c = more _ _ _ _ _ c.text.ensures (more _ _ _ _ _ c.place.ensures c.text-2.ensures)
