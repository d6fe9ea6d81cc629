use Rattle.memory.proofs.write.Goals as goal

pub returns : goal.returns
returns c = record { value = c.store-put.ensures; told = rw c.touch.ensures.0 at c.note_call.ensures }
