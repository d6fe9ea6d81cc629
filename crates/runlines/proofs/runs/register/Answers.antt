use Rattle.text.proofs.Adding.{more}
use Rattle.runlines.proofs.runs.register.Goals as goal

pub returns : goal.returns
returns c = more _ _ _ _ _ c.text.ensures (more _ _ _ _ _ c.byte.ensures (more _ _ _ _ _ c.text-2.ensures c.hex.ensures))
