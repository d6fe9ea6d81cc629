use borrow.Author.Tests.{ne_eqb}
use Rattle.transfer.specs.MirrorTransfer.{aim_in}
use Rattle.transfer.proofs.moving.aimed.Goals as goal

pub returns-in-0 : goal.returns-in-0
unfolding aim_in
returns-in-0 c = simp (c.in-0.is, c.at.ensures, c.next.ensures, c.low.ensures, c.get.ensures, c.high.ensures)

pub returns-in-2 : goal.returns-in-2
unfolding aim_in
returns-in-2 c = simp (c.in-2.is, c.at-in-2.ensures, c.next-in-2.ensures, c.low-in-2.ensures, c.displaced.ensures, c.get-in-2.ensures, c.high-in-2.ensures)

pub returns-in-3 : goal.returns-in-3
unfolding aim_in
returns-in-3 c = simp (c.in-3.is, c.at-in-3.ensures, c.next-in-3.ensures, c.low-in-3.ensures)

pub returns-in-4 : goal.returns-in-4
unfolding aim_in
returns-in-4 c = simp (c.in-4.is, c.at-in-4.ensures, c.next-in-4.ensures, c.low-in-4.ensures, c.extended.ensures)

pub returns-in_default : goal.returns-in_default
unfolding aim_in
returns-in_default c = let r = c.in_default.in_default-own.rest in simp (ne_eqb _ _ r.0.0.0.1, ne_eqb _ _ r.0.0.1, ne_eqb _ _ r.0.1, ne_eqb _ _ r.1, c.at-in_default.ensures, c.next-in_default.ensures, c.low-in_default.ensures)
