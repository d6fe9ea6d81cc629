use Rattle.std.proofs.Common.{◌*◌, length}
use Rattle.listing.specs.Listing.{flow_at}
use Rattle.levels.specs.Levels.{Reached}
use Rattle.levels.proofs.Code.stretch.Given as goal

-- from the top down
abbrev pub invariant-loop-i : goal.invariant-loop-i
invariant-loop-i l = Reached (flow_at l.fn.self.site l.self.rom.now) (length l.self.rom.now) l.depth (l.i * 2) l.initial.table l.table
