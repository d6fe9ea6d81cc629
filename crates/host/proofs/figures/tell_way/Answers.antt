use Rattle.std.specs.Prelude.{Ok, Option}
use Prim.Native.Nat.{ℕ}
use mathlib.Core.List.{[], ◌∷◌}
use mathlib.Core.Path.{ap, ◌∙◌}
use Rattle.host.specs.Answers.{completed, refuse, tell}
use Rattle.host.specs.Figures.{way_told}
use Rattle.host.proofs.Told.{headed_told, refused_told}
use Rattle.host.proofs.Numbered.{way_numbers}
use Rattle.host.proofs.figures.tell_way.Goals as goal

pub returns-in-Ok : goal.returns-in-Ok
returns-in-Ok c = rw c.in-Ok.is (headed_told (c.place.result ∷ []) c.args.answer.now c.told.ensures.number c.told.ensures.answer ∙ ap (λ (x : ℕ). tell (completed (x ∷ [])) c.args.answer.now) c.place.ensures ∙ way_numbers c.in-Ok.on c.args.answer.now)

pub returns-in-Err : goal.returns-in-Err
unfolding way_told refuse
returns-in-Err c = rw c.in-Err.is (refused_told _ _ c.told-in-Err.ensures.number c.told-in-Err.ensures.answer _ c.from.ensures)
