use mathlib.Core.Path.{◌∙◌}
use mathlib.Core.Bool.{true, false}
use Rattle.arith.proofs.Pointed.{daa_pointed_lem}
use Rattle.arith.proofs.decimal.daa.Goals as goal

pub returns-then-h : goal.returns-then-h
returns-then-h c = rw (c.if-c.true, c.if-h.true) (c.daa_both.ensures ∙ daa_pointed_lem true true _)

pub returns-else-h : goal.returns-else-h
returns-else-h c = rw (c.if-c.true, c.if-h.false) (c.daa_carried.ensures ∙ daa_pointed_lem true false _)

pub returns-then-h-2 : goal.returns-then-h-2
returns-then-h-2 c = rw (c.if-c.false, c.if-h-2.true) (c.daa_half.ensures ∙ daa_pointed_lem false true _)

pub returns-else-h-2 : goal.returns-else-h-2
returns-else-h-2 c = rw (c.if-c.false, c.if-h-2.false) (c.daa_plain.ensures ∙ daa_pointed_lem false false _)
