use Rattle.std.proofs.Common.{◌≡◌, ◌*◌, ◌<◌, ℕ, length, get_or}
use Rattle.levels.specs.Levels.{Rest, ShownFrom}
use Rattle.levels.proofs.Code.unpack.Given as goal

-- from the top down: the rows below are as they were
abbrev pub invariant-loop-i : goal.invariant-loop-i
invariant-loop-i l = record {
  rows : ShownFrom (length l.self.rom.now) l.initial.table l.table (l.i * 2);
  below : (j : ℕ) → j < l.i * 2 → get_or l.table j 0 ≡ get_or l.initial.table j 0;
  rest : Rest (length l.self.rom.now) l.initial.table l.table;
}
