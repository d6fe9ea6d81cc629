use Rattle.mnemonics.proofs.instructions.instruction.Goals as goal

pub returns-in-Bsr : goal.returns-in-Bsr
returns-in-Bsr c = rw c.in-Bsr.is c.branch-l.ensures
