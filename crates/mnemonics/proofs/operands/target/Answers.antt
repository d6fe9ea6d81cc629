use Rattle.mnemonics.proofs.operands.target.Goals as goal

pub returns-in-Direct : goal.returns-in-Direct
returns-in-Direct c = rw c.in-Direct.is c.absolute.ensures
