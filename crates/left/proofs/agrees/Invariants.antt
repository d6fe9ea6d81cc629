use Prim.Native.Nat.{◌-◌, ◌≤◌}
use mathlib.Core.Path.{◌≡◌}
use lib.ListN.{drop}
use Rattle.left.specs.Left.{agrees}
use Rattle.left.specs.MirrorTable.{patterns_in}
use Rattle.left.proofs.agrees.Given as goal

abbrev pub invariant-loop-j : goal.invariant-loop-j
invariant-loop-j l = (l.j ≤ l.count) × (agrees (patterns_in (l.count - l.j) l.a l.b) (drop l.j l.s) ≡ agrees (patterns_in l.count l.least l.most) l.s)
