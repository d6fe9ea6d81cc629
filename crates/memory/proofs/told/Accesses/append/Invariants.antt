use Rattle.std.proofs.Common.{◌≡◌, ◌++◌, take}
use Rattle.memory.proofs.told.Accesses.append.Given as goal

abbrev pub invariant-loop-x : goal.invariant-loop-x
invariant-loop-x l = l.self.items ≡ take 4 (l.initial.self.items ++ take l.x-index l.x-items)
