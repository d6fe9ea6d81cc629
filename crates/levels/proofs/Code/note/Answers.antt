use Rattle.std.proofs.Common.{ap, ◌∙◌, ◌-◌, ◌*◌, length, arith, Result}
use Rattle.refusal.specs.declared.Refusal.{Refusal}
use Rattle.codes.proofs.Laws.{bytes_of}
use Rattle.listing.specs.Listing.{flow_at}
use Rattle.listing.proofs.Listed.{listing}
use Rattle.paths.specs.declared.Flow.{Flow}
use Rattle.paths.specs.MirrorPacked.{notes_of}
use Rattle.paths.proofs.Table.{stored_rest}
use Rattle.levels.proofs.Turns.{one_note}
use Rattle.levels.proofs.Code.note.Goals as goal

pub loop-i-preserved : goal.loop-i-preserved
loop-i-preserved c =
    let s = c in
    let g = s.requires in
    let l = c.loop-i in
    let w = c.noted-w.result in
    let rom = s.args.self.rom.now in
    let L = listing s.args.self.site rom (bytes_of rom s.args.self.bytes) s.args.self.even s.args.self.small in
    record {
      noted = one_note (flow_at s.args.self.site rom) (length rom) L l.table ((l.i - 1) * 2) (omega arith) (omega arith) (omega (arith, g.room)) w
          (c.noted-w.ensures ∙ ap (λ (f : Result Flow Refusal). notes_of f) c.glance.ensures) (λ q h. l.invariant.noted q (omega arith));
      rest = λ j h. stored_rest l.table ((l.i - 1) * 2) w.to w.on _ (omega arith) j h ∙ l.invariant.rest j h;
    }
