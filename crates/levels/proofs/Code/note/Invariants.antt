use Rattle.std.proofs.Common.{◌*◌, length}
use Rattle.listing.specs.Listing.{flow_at}
use Rattle.levels.specs.Levels.{Rest, NotedFrom}
use Rattle.levels.proofs.Code.note.Given as goal

-- from the top down
abbrev pub invariant-loop-i : goal.invariant-loop-i
invariant-loop-i l = record { noted : NotedFrom (flow_at l.self.site l.self.rom.now) (length l.self.rom.now) l.table (l.i * 2); rest : Rest (length l.self.rom.now) l.initial.table l.table }
