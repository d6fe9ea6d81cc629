use mathlib.Core.Bool.{xor}
use Rattle.step.specs.Follow.{holds_of}
use Rattle.step.proofs.holds.Goals as goal

pub returns : goal.returns
unfolding holds_of xor
returns c = cc
