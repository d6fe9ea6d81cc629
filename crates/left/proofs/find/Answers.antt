use mathlib.Core.Path.{sym, ◌∙◌}
use Rattle.left.proofs.Table.{found, passed, none}
use Rattle.left.proofs.find.Goals as goal

pub returns-then-agrees : goal.returns-then-agrees
returns-then-agrees c =
    let l = c.loop-row in
    let a = c.args in
    sym (found a.rows.now l.row-index a.s.now (0, 0, 0, 0) c.loop-row-test.true (sym c.agrees.ensures ∙ c.if-agrees.true)) ∙ l.invariant

pub loop-row-preserved : goal.loop-row-preserved
loop-row-preserved c =
    let l = c.loop-row in
    let a = c.args in
    sym (passed a.rows.now l.row-index a.s.now (0, 0, 0, 0) c.loop-row-test.true (sym c.agrees.ensures ∙ c.if-agrees.false)) ∙ l.invariant

pub returns : goal.returns
returns c = let l = c.loop-row in let a = c.args in sym (none a.rows.now l.row-index a.s.now c.loop-row-test.false) ∙ l.invariant
