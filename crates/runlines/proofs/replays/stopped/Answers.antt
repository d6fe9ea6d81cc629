use borrow.Author.Tests.{eq-eqb}
use Rattle.text.proofs.Adding.{more}
use Rattle.runlines.specs.Replays.{stopped_text}
use Rattle.runlines.proofs.replays.stopped.Goals as goal

pub returns-then-number-eq12 : goal.returns-then-number-eq12
unfolding stopped_text
returns-then-number-eq12 c = rw (← c.number.ensures, eq-eqb _ _ c.if-number-eq12.true) (more _ _ _ _ _ c.before-then-number-eq12.ensures c.text.ensures)
