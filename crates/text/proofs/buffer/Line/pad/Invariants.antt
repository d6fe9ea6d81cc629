use Rattle.std.proofs.Common.{◌≡◌, replicate}
use Rattle.text.specs.Lines.{added}
use Rattle.text.proofs.buffer.Line.pad.Given as goal

abbrev pub invariant-loop : goal.invariant-loop
invariant-loop l = l.self ≡ added l.initial.self (replicate l.counter 32)
