use mathlib.Core.Path.{ap, ◌∙◌}
use Prim.Native.Nat.{◌+◌}
use lib.ListN.{get_or}
use Rattle.std.specs.Prelude.{Ok}
use Rattle.listing.proofs.Words.{branch_word, told_word}
use Rattle.listing.proofs.glance.Goals as goal

pub returns-then-a-eq4 : goal.returns-then-a-eq4
returns-then-a-eq4 c = let b = c in
    let l = b in
    let a = l.args in
    ap Ok c.branch-a.ensures
    ∙ rw (c.target-to.ensures, b.next-next.ensures)
    (branch_word a.k a.rom.now a.p l.if-rom-at.false b.if-a-eq4.true)

pub returns-in-Some : goal.returns-in-Some
returns-in-Some c = let t = c in
    let a = t.args in
    ap Ok c.onward.ensures
    ∙ simp t.next-next.ensures (told_word a.k a.rom.now a.p t.if-rom-at.false c.in-Some.s (c.in-Some.ensures (get_or a.rom.now (a.p + 1) 0)))
