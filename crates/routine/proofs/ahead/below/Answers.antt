use mathlib.Core.Path.{ap, ◌∙◌}
use Rattle.arith.specs.declared.Width.TheVariants.{Long}
use Rattle.registers.specs.declared.Registers.{Registers}
use Rattle.registers.specs.Parts.{part_of}
use Rattle.routine.proofs.ahead.below.Goals as goal

pub returns : goal.returns
unfolding part_of
returns c = c.get.ensures ∙ ap (λ (x : Registers). part_of Long x 7) (c.lower.ensures c.args.r.pc)
