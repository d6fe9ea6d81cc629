use Rattle.std.specs.Prelude.{◌<◌}
use Rattle.std.proofs.Common.{arith, ◌∙◌}
use Rattle.std.proofs.lemmas.List.{length-set}
use Rattle.memory.proofs.Listing.{room_after}
use Rattle.memory.proofs.told.Accesses.push.Goals as goal

pub invariant_of-self : goal.invariant_of-self
invariant_of-self c =
    let s = c.self.inside in
    let v = c.self.invariant in
    let few = v.0 in
    let fits : s.count < 4 = omega (arith, c.if-self-lt4.true) in (
      omega (arith, fits),
      length-set _ _ _ ∙ v.1,
      room_after s.count s.cells v.0 v.1 v.2 c.args.x fits,
    )
