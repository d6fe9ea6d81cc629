use borrow.Author.Tests.{ne_eqb}
use Rattle.text.proofs.Adding.{more}
use Rattle.wording.specs.Standing.{not_held_text}
use Rattle.wording.proofs.not_held.Goals as goal

pub returns-else-g-eq0 : goal.returns-else-g-eq0
unfolding not_held_text
returns-else-g-eq0 c = rw (ne_eqb _ _ c.if-g-eq0.false, ← c.from.ensures) (more _ _ _ _ _ c.text-else-g-eq0.ensures c.decimal.ensures)
