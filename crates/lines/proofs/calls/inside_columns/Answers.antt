use borrow.Author.Rules.{rules}
use Rattle.text.proofs.Adding.{more, column}
use Rattle.lines.proofs.calls.inside_columns.Goals as goal

pub returns : goal.returns
returns c =
    column _ _ _ 66 (search rules)
    (more _ _ _ _ _
    (column _ _ _ 58 (search rules) (more _ _ _ _ _ (rw c.new-l.ensures at c.text.ensures) c.place.ensures) c.pad.ensures)
    c.decimal.ensures)
    c.pad-2.ensures
