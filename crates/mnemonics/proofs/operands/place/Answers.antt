use Rattle.mnemonics.proofs.operands.place.Goals as goal

pub returns-in-Abs16 : goal.returns-in-Abs16
returns-in-Abs16 c = rw (c.in-Abs16.is, ← c.extend.ensures) c.absolute.ensures

pub returns-in-Abs24 : goal.returns-in-Abs24
returns-in-Abs24 c = rw c.in-Abs24.is c.absolute-in-Abs24.ensures
