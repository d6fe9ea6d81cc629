use mathlib.Core.Path.{refl, sym, ◌∙◌}
use native.Mathlib.Omega.{arith}
use Rattle.left.proofs.Table.{differs, goes_on, all_gone, at_end}
use Rattle.left.proofs.agrees.Goals as goal

pub returns-then-j-count : goal.returns-then-j-count
returns-then-j-count c =
    let l = c.loop-j in
    let a = c.args in
    sym (all_gone a.s.now a.count l.j l.a l.b (omega (arith, c.if-j-count.true))) ∙ l.invariant.1

pub returns-then-not-fits : goal.returns-then-not-fits
returns-then-not-fits c =
    let l = c.loop-j in
    let a = c.args in
    sym (differs a.s.now a.count l.j l.a l.b (omega (arith, l.invariant.0, c.if-j-count.false), c.loop-j-test.true) _ refl _ c.fits.ensures c.if-not-fits.true) ∙ l.invariant.1

pub loop-j-preserved : goal.loop-j-preserved
loop-j-preserved c =
    let l = c.loop-j in
    let a = c.args in (
      omega (arith, l.invariant.0, c.if-j-count.false),
      sym (goes_on a.s.now a.count l.j l.a l.b (omega (arith, l.invariant.0, c.if-j-count.false), c.loop-j-test.true) _ refl _ c.fits.ensures c.if-not-fits.false) ∙ l.invariant.1,
    )

pub returns : goal.returns
returns c =
    let l = c.loop-j in
    let a = c.args in
    sym (at_end a.s.now a.count l.j l.a l.b c.loop-j-test.false) ∙ l.invariant.1
