use native.Mathlib.Omega.{arith}
use borrow.Author.Tests.{eq-eqb, ne_eqb}
use Rattle.run.proofs.Strays.{absent, present}
use Rattle.run.proofs.beside.strays.Goals as goal

pub returns-then-w-eq0 : goal.returns-then-w-eq0
returns-then-w-eq0 c = rw (absent _ _ _ _ _ c.if-w-eq0.true)

pub other_length-requires : goal.other_length-requires
other_length-requires c = let h = c.requires.there (omega (arith, c.if-w-eq0.false)) in omega (arith, h)

pub returns-then-other_length : goal.returns-then-other_length
returns-then-other_length c = rw (present _ _ _ _ _ c.if-w-eq0.false, c.other_length.ensures, c.if-other_length.true)

pub four-requires : goal.four-requires
four-requires c = let h = c.requires.there (omega (arith, c.if-w-eq0.false)) in omega (arith, h)

pub returns-then-four-pc : goal.returns-then-four-pc
returns-then-four-pc c = rw (present _ _ _ _ _ c.if-w-eq0.false, c.other_length.ensures, c.if-other_length.false, ← c.four.ensures, ne_eqb _ _ c.if-four-pc.true)

pub bounds-w-i : goal.bounds-w-i
bounds-w-i c = let h = c.requires.there (omega (arith, c.if-w-eq0.false)) in omega (arith, h)

pub returns-then-w-i : goal.returns-then-w-i
returns-then-w-i c = rw (present _ _ _ _ _ c.if-w-eq0.false, c.other_length.ensures, c.if-other_length.false, ← c.four.ensures, eq-eqb _ _ c.if-four-pc.false, ← c.condition_byte-byte.ensures, ne_eqb _ _ c.if-w-i.true)

pub four-requires-2 : goal.four-requires-2
four-requires-2 c = let h = c.requires.there (omega (arith, c.if-w-eq0.false)) in omega (arith, h)

pub returns : goal.returns
returns c = rw (present _ _ _ _ _ c.if-w-eq0.false, c.other_length.ensures, c.if-other_length.false, ← c.four.ensures, eq-eqb _ _ c.if-four-pc.false, ← c.condition_byte-byte.ensures, eq-eqb _ _ c.if-w-i.false, ← c.four-2.ensures)
