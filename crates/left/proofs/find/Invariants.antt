use mathlib.Core.Path.{◌≡◌}
use lib.ListN.{drop}
use Rattle.left.specs.Left.{group_in}
use Rattle.left.specs.MirrorTable.{rows_in}
use Rattle.left.proofs.find.Given as goal

abbrev pub invariant-loop-row : goal.invariant-loop-row
invariant-loop-row l = group_in (rows_in (drop l.row-index l.rows)) l.s ≡ group_in (rows_in l.rows) l.s
