use Rattle.std.proofs.lemmas.List.{append-nil}
use mathlib.Core.Path.{◌∙◌}
use mathlib.Core.Bool.{true, false}
use borrow.Author.Tests.{ne_eqb}
use Rattle.arith.specs.declared.Width.TheVariants.{Byte, Word, Long}
use Rattle.memory.specs.Trail.{call_in}
use Rattle.memory.proofs.Trails.{same_places}
use Rattle.memory.proofs.told.tell.Goals as goal

pub returns-in-1 : goal.returns-in-1
unfolding call_in
returns-in-1 c = rw c.in-1.is (c.note.ensures ∙ rw (same_places false Byte))

pub returns-in-2 : goal.returns-in-2
unfolding call_in
returns-in-2 c = rw c.in-2.is (c.note-in-2.ensures ∙ rw (same_places false Word))

pub returns-in-3 : goal.returns-in-3
unfolding call_in
returns-in-3 c = rw c.in-3.is (c.note-in-3.ensures ∙ rw (same_places false Long))

pub returns-in-5 : goal.returns-in-5
unfolding call_in
returns-in-5 c = rw c.in-5.is (c.note-in-5.ensures ∙ rw (same_places true Byte))

pub returns-in-6 : goal.returns-in-6
unfolding call_in
returns-in-6 c = rw c.in-6.is (c.note-in-6.ensures ∙ rw (same_places true Word))

pub returns-in-7 : goal.returns-in-7
unfolding call_in
returns-in-7 c = rw c.in-7.is (c.note-in-7.ensures ∙ rw (same_places true Long))

pub returns-in_default : goal.returns-in_default
unfolding call_in
returns-in_default c = let r = c.in_default.in_default-own.rest in rw (ne_eqb _ _ r.0.0.0.0.0.1, ne_eqb _ _ r.0.0.0.0.1, ne_eqb _ _ r.0.0.0.1, ne_eqb _ _ r.0.0.1, ne_eqb _ _ r.0.1, ne_eqb _ _ r.1) (simp append-nil)
