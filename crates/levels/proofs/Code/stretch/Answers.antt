use Rattle.std.proofs.Common.{ℕ, ◌+◌, ◌-◌, ◌*◌, ◌%◌, length, slice_index_or, Fits, w64, arith, rules}
use Rattle.codes.proofs.Laws.{bytes_of}
use Rattle.listing.specs.Listing.{flow_at}
use Rattle.listing.proofs.Listed.{listing}
use Rattle.levels.proofs.Turns.{from_higher, one_row, row_small}
use Rattle.levels.proofs.Code.stretch.Goals as goal

pub overflow_add-table : goal.overflow_add-table
overflow_add-table c =
    let s = c in
    let g = s.requires.lent.0 in
    let l = c.loop-i in
    let rom = s.args.self.rom.now in
    let L = listing s.args.self.site rom (bytes_of rom s.args.self.bytes) s.args.self.even s.args.self.small in
    let small = row_small (flow_at s.args.self.site rom) (length rom) L s.args.depth ((l.i - 1) * 2) c.reckon-r.result (omega arith) (omega arith) g.room (omega arith) l.invariant c.reckon-r.ensures in
    let old : (i : ℕ) → Fits w64 (slice_index_or l.table i 0) = λ i. search rules in
    omega (arith, small, old ((l.i - 1) * 2), old ((l.i - 1) * 2 + s.args.depth % 2))

pub loop-i-preserved : goal.loop-i-preserved
loop-i-preserved c =
    let s = c in
    let g = s.requires.lent.0 in
    let l = c.loop-i in
    let rom = s.args.self.rom.now in
    let L = listing s.args.self.site rom (bytes_of rom s.args.self.bytes) s.args.self.even s.args.self.small in
    one_row (flow_at s.args.self.site rom) (length rom) L s.args.depth ((l.i - 1) * 2) c.reckon-r.result (omega arith) (omega arith) g.room (omega arith) l.invariant c.reckon-r.ensures (omega arith)

pub returns : goal.returns
returns c =
    let s = c in
    from_higher (flow_at s.args.self.site s.args.self.rom.now) (length s.args.self.rom.now) (omega (arith, s.requires.lent.1)) c.loop-i.invariant
