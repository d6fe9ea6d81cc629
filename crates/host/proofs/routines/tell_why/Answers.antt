use Prim.Native.Nat.{ℕ}
use mathlib.Core.List.{List}
use mathlib.Core.Path.{ap, ◌∙◌}
use Rattle.layout.specs.Lent.{eight_of}
use Rattle.host.specs.Answers.{tell}
use Rattle.host.specs.Routines.{kept_numbers}
use Rattle.host.specs.MirrorAnswers.{headed}
use Rattle.host.specs.declared.answers.Head.{Head}
use Rattle.host.proofs.Told.{headed_told}
use Rattle.host.proofs.Numbered.{routine_numbers}
use Rattle.host.proofs.routines.tell_why.Goals as goal

pub returns : goal.returns
unfolding eight_of
returns c =
    headed_told (kept_numbers c.args.q c.numbered-ending.result.1) c.args.answer.now c.told.ensures.number c.told.ensures.answer
    ∙ ap (λ (k : Head × ℕ). tell (headed (λ (x : ℕ). x) k.0 (kept_numbers c.args.q k.1)) c.args.answer.now) c.numbered-ending.ensures
    ∙ ap (λ (l : List ℕ). tell l c.args.answer.now) (routine_numbers c.args.q.why c.args.q)
