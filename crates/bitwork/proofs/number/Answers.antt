use Rattle.registers.specs.Parts.{part_of}
use Rattle.bitwork.specs.Bitwork.{number_of}
use Rattle.bitwork.proofs.number.Goals as goal

pub returns-in-Numbered : goal.returns-in-Numbered
unfolding number_of part_of
returns-in-Numbered c = λ pc f. rw c.in-Numbered.is

pub returns-in-ByPart : goal.returns-in-ByPart
unfolding number_of part_of
returns-in-ByPart c = λ pc f. rw c.in-ByPart.is (cc)
