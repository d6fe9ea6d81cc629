use mathlib.Core.Path.{◌≡◌}
use lib.ListN.{length, drop}
use Rattle.replay.specs.Replay.{moment, fed}
use Rattle.replay.proofs.one_by_one.Given as goal

abbrev pub invariant-loop-x : goal.invariant-loop-x
invariant-loop-x l =
    (length l.ram ≡ length l.initial.ram) × (fed l.b l.rom (moment l.q l.ram) (drop l.x-index l.bytes) ≡ fed l.b l.rom (moment l.initial.q l.initial.ram) l.bytes)
