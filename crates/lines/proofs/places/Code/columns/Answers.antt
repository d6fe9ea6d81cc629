use borrow.Author.Rules.{rules}
use Rattle.text.proofs.Adding.{more, column}
use Rattle.lines.proofs.places.Code.columns.Goals as goal

pub returns : goal.returns
returns c =
    rw (← c.length_at.ensures)
    (column _ _ _ 66 (search rules)
    (more _ _ _ _ _
    (column _ _ _ 58 (search rules)
    (more _ _ _ _ _
    (column _ _ _ 28 (search rules)
    (more _ _ _ _ _ (column _ _ _ 10 (search rules) (rw c.new-l.ensures at c.place.ensures) c.pad.ensures) c.bytes.ensures)
    c.pad-2.ensures)
    c.found_at.ensures)
    c.pad-3.ensures)
    c.states_words.ensures)
    c.pad-4.ensures)
