use Rattle.std.specs.Prelude.{Result}
use mathlib.Core.Path.{sym, ap, ◌∙◌}
use Rattle.refusal.specs.declared.Refusal.{Refusal}
use Rattle.routine.specs.MirrorTurn.{turned_by}
use Rattle.routine.proofs.by_outcome.Goals as goal

pub returns-in-Ok : goal.returns-in-Ok
unfolding turned_by
returns-in-Ok c = let a = c.args in
    c.follow.ensures ∙ ap (λ (o : Result (Unit {0}) Refusal). turned_by o a.g a.next a.r a.kept a.a) (sym c.in-Ok.is)

pub returns-in-Err : goal.returns-in-Err
unfolding turned_by
returns-in-Err c = let a = c.args in
    c.stay.ensures ∙ ap (λ (o : Result (Unit {0}) Refusal). turned_by o a.g a.next a.r a.kept a.a) (sym c.in-Err.is)
