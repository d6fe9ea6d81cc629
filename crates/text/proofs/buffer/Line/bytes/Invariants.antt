use Rattle.std.proofs.Common.{◌≡◌, take}
use Rattle.text.specs.Lines.{added}
use Rattle.text.proofs.buffer.Line.bytes.Given as goal

abbrev pub invariant-loop-b : goal.invariant-loop-b
invariant-loop-b l = l.self ≡ added l.initial.self (take l.b-index l.s)
