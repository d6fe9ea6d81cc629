use Rattle.std.proofs.lemmas.List.{take_more}
use Rattle.memory.proofs.Listing.{appended}
use Rattle.memory.proofs.told.Accesses.append.Goals as goal

pub loop-x-preserved : goal.loop-x-preserved
loop-x-preserved c =
    let l = c.loop-x in
    let s = c.as_slice-x-items.result.now in
    appended c.args.self.now.items l.self.items s l.x-index _ _ l.invariant (take_more s l.x-index _ c.loop-x-test.true) c.push.ensures
