use Rattle.registers.specs.Condition.{byte_of}
use Rattle.registers.proofs.U8FromCondition.from.Goals as goal

pub returns : goal.returns
unfolding byte_of
returns c = cc
