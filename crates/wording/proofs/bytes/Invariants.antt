use Rattle.std.proofs.Common.{◌≡◌}
use Rattle.text.specs.Lines.{added}
use Rattle.wording.specs.Standing.{bytes_at}
use Rattle.wording.proofs.bytes.Given as goal

abbrev pub invariant-loop-i : goal.invariant-loop-i
invariant-loop-i l = l.l ≡ added l.initial.l (bytes_at l.rom l.p l.i)
