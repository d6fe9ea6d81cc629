use Prim.Native.Nat.{◌+◌, ◌-◌, ◌*◌}
use mathlib.Core.Path.{◌≡◌}
use lib.ListN.{drop}
use lib.Seq.{sets}
use Rattle.host.specs.Steps.{entries, touched}
use Rattle.host.proofs.stepping.put_list.Given as goal

-- what is still to be stored
abbrev pub invariant-loop-i : goal.invariant-loop-i
invariant-loop-i l = sets l.answer (5 + 3 * l.i) (entries (4 - l.i) (drop l.i l.xs)) ≡ sets l.fn.answer 4 (touched l.xs)
