use Rattle.std.proofs.Common.{ap, sym, ◌∙◌, length, arith}
use Rattle.text.specs.Lines.{added}
use Rattle.text.proofs.Adding.{more}
use Rattle.runlines.proofs.Told.{accesses_more}
use Rattle.runlines.proofs.traces.accesses.Goals as goal

pub loop-x-preserved : goal.loop-x-preserved
loop-x-preserved c =
    let value = c.as_slice-x-items.ensures.value in
    more _ _ _ _ _ c.loop-x.invariant (rw value at c.access.ensures)
    ∙ ap (λ s. added c.args.l.now s) (sym (accesses_more c.args.plain c.args.list.now.items c.loop-x.x-index _ (omega (arith, ap length value))))
