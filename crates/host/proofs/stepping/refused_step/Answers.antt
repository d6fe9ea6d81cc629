use mathlib.Core.Path.{refl, ◌∙◌}
use Rattle.host.specs.Steps.{step_answer}
use Rattle.host.proofs.stepping.refused_step.Goals as goal

pub returns : goal.returns
unfolding step_answer
returns c = c.told_step.ensures ∙ rw (c.group.ensures, c.place.ensures, c.number.ensures, c.new.ensures) refl
