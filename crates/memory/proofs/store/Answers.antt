use Rattle.memory.specs.Access.{write_of, write_part}
use Rattle.memory.proofs.Cases.{byte_low, word_low}
use Rattle.memory.proofs.store.Goals as goal

pub returns-in-Byte : goal.returns-in-Byte
unfolding write_of write_part
returns-in-Byte c = let a = c.args in rw (c.in-Byte.is, c.write_part.ensures, c.address.ensures, byte_low a.ram.now _ a.x)

pub returns-in-Word : goal.returns-in-Word
unfolding write_of write_part
returns-in-Word c = let a = c.args in rw (c.in-Word.is, c.write_part-in-Word.ensures, c.even_address.ensures, word_low a.ram.now _ a.x)
