use Rattle.std.specs.Prelude.{◌≡◌, take}
use Rattle.text.specs.Lines.{added}
use Rattle.runlines.specs.Traces.{accesses_text}
use Rattle.runlines.proofs.traces.accesses.Given as goal

abbrev pub invariant-loop-x : goal.invariant-loop-x
invariant-loop-x l = l.l ≡ added l.fn.l (accesses_text l.fn.plain (take l.x-index l.fn.list.items))
