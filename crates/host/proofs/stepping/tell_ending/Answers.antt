use Prim.Native.Nat.{ℕ}
use mathlib.Core.List.{List, [], ◌∷◌}
use mathlib.Core.Path.{ap, ◌∙◌}
use Rattle.host.specs.Answers.{tell}
use Rattle.host.specs.MirrorAnswers.{headed}
use Rattle.host.specs.declared.answers.Head.{Head}
use Rattle.host.proofs.Told.{headed_told}
use Rattle.host.proofs.Numbered.{run_numbers}
use Rattle.host.proofs.stepping.tell_ending.Goals as goal

pub returns : goal.returns
returns c =
    headed_told (c.args.steps ∷ c.args.states ∷ c.numbered-ending.result.1 ∷ []) c.args.answer.now c.told.ensures.number c.told.ensures.answer
    ∙ ap (λ (k : Head × ℕ). tell (headed (λ (x : ℕ). x) k.0 (c.args.steps ∷ c.args.states ∷ k.1 ∷ [])) c.args.answer.now) c.numbered-ending.ensures
    ∙ ap (λ (l : List ℕ). tell l c.args.answer.now) (run_numbers c.args.why c.args.steps c.args.states)
