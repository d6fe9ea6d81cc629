use mathlib.Core.Path.{◌∙◌}
use mathlib.Core.Bool.{true, false}
use Rattle.arith.proofs.Pointed.{das_pointed_lem}
use Rattle.arith.proofs.decimal.das.Goals as goal

pub returns-then-h : goal.returns-then-h
returns-then-h c = rw (c.if-c.true, c.if-h.true) (c.by_row.ensures ∙ das_pointed_lem true true _)

pub returns-else-h : goal.returns-else-h
returns-else-h c = rw (c.if-c.true, c.if-h.false) (c.by_row-else-h.ensures ∙ das_pointed_lem true false _)

pub returns-then-h-2 : goal.returns-then-h-2
returns-then-h-2 c = rw (c.if-c.false, c.if-h-2.true) (c.by_row-then-h-2.ensures ∙ das_pointed_lem false true _)

pub returns-else-h-2 : goal.returns-else-h-2
returns-else-h-2 c = rw (c.if-c.false, c.if-h-2.false) (c.by_row-else-h-2.ensures ∙ das_pointed_lem false false _)
