use Rattle.std.specs.Prelude.{Err}
use mathlib.Core.Path.{ap, ◌∙◌}
use Rattle.codes.proofs.Laws.{rest_of}
use Rattle.decoder.proofs.Planned.{too_few, enough}
use Rattle.decoder.proofs.whole.begins.Goals as goal

pub returns-then-s-k : goal.returns-then-s-k
returns-then-s-k c = let b = c in
    ap Err c.short.ensures
    ∙ too_few b.args.s.now b.byte_at.ensures b.lead-n.ensures b.planned-p.ensures
    c.if-s-k.true

pub returns : goal.returns
returns c = let b = c in
    (simp rest_of at c.finish.ensures)
    ∙ enough b.args.s.now b.byte_at.ensures b.lead-n.ensures b.planned-p.ensures
    c.if-s-k.false
