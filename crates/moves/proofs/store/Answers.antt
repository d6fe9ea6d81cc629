use Rattle.moves.proofs.Laws.{part_stored, noted_kept}
use mathlib.Core.Path.{sym, ◌∙◌, ap}
use Rattle.operate.specs.declared.Deed.{Deed}
use Rattle.moves.specs.Moves.{address_of, step_over}
use Rattle.moves.proofs.store.Goals as goal

pub returns : goal.returns
unfolding address_of step_over
returns c = record { did = λ pc. rw (c.kept.ensures, c.flagged.ensures) (part_stored _ _ _ _ pc _ _ _ _ _ _ c.get-x.ensures c.write-p.ensures.value); told = λ pc o. noted_kept _ _ _ _ _ _ c.write-p.ensures.told (sym (ap (λ (e : Deed). e.outcome) c.kept.ensures) ∙ o) }
