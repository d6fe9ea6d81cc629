use Rattle.execute.proofs.branch.Goals as goal

pub returns-then-taken : goal.returns-then-taken
returns-then-taken c = simp (c.if-taken.true, c.done.ensures, c.target.ensures)

pub returns-else-taken : goal.returns-else-taken
returns-else-taken c = simp (c.if-taken.false, c.done-else-taken.ensures)
