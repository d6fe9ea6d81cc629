use Rattle.registers.specs.Parts.{part_of}
use mathlib.Core.Path.{sym}
use Rattle.bitwork.proofs.take.Goals as goal

pub returns : goal.returns
unfolding part_of
returns c = λ pc. rw (sym c.get.ensures) (c.took.ensures pc)
