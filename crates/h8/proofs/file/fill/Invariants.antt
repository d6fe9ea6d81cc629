use Rattle.std.proofs.Common.{◌≤◌, length}
use Rattle.h8.proofs.file.fill.Given as goal

abbrev pub invariant-loop : goal.invariant-loop
invariant-loop g l = l.n ≤ length l.room
