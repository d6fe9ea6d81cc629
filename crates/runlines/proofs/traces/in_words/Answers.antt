use borrow.Author.Rules.{rules}
use Rattle.text.proofs.Adding.{more, column}
use Rattle.runlines.proofs.traces.in_words.Goals as goal

pub returns : goal.returns
returns c =
    more _ _ _ _ _
    (column _ _ _ 40 (search rules)
    (more _ _ _ _ _ (column _ _ _ 10 (search rules) (rw c.new-l.ensures at c.place.ensures) c.pad.ensures) c.found_at.ensures)
    c.pad-2.ensures)
    (rw c.from.ensures at c.decimal.ensures)
