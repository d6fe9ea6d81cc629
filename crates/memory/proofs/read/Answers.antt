use Rattle.memory.proofs.read.Goals as goal

pub returns : goal.returns
returns c = record { value = c.look-got.ensures; told = rw c.touch.ensures.0 at c.note_call.ensures }
