use borrow.Author.Tests.{ne_eqb}
use Rattle.arith.specs.declared.Width.TheVariants.{Byte, Word}
use Rattle.codes.specs.declared.Turn.TheVariants.{Shll, Shlr, Rotxl, Rotxr, Shal, Shar, Rotl, Rotr}
use Rattle.entry.specs.Entry.{turns}
use Rattle.execute.proofs.Laws.{shift_obeys}
use Rattle.execute.proofs.turn_short.Goals as goal

pub returns-in-0 : goal.returns-in-0
unfolding turns
returns-in-0 c = λ m pc b rom ram. simp c.in-0.is (shift_obeys _ _ _ _ Shll Byte _ c.shll.ensures m pc b rom ram)

pub returns-in-1 : goal.returns-in-1
unfolding turns
returns-in-1 c = λ m pc b rom ram. simp c.in-1.is (shift_obeys _ _ _ _ Shlr Byte _ c.shlr.ensures m pc b rom ram)

pub returns-in-2 : goal.returns-in-2
unfolding turns
returns-in-2 c = λ m pc b rom ram. simp c.in-2.is (shift_obeys _ _ _ _ Rotxl Byte _ c.rotxl.ensures m pc b rom ram)

pub returns-in-3 : goal.returns-in-3
unfolding turns
returns-in-3 c = λ m pc b rom ram. simp c.in-3.is (shift_obeys _ _ _ _ Rotxr Byte _ c.rotxr.ensures m pc b rom ram)

pub returns-in-4 : goal.returns-in-4
unfolding turns
returns-in-4 c = λ m pc b rom ram. simp c.in-4.is (shift_obeys _ _ _ _ Shal Byte _ c.shal.ensures m pc b rom ram)

pub returns-in-5 : goal.returns-in-5
unfolding turns
returns-in-5 c = λ m pc b rom ram. simp c.in-5.is (shift_obeys _ _ _ _ Shar Byte _ c.shar.ensures m pc b rom ram)

pub returns-in-6 : goal.returns-in-6
unfolding turns
returns-in-6 c = λ m pc b rom ram. simp c.in-6.is (shift_obeys _ _ _ _ Rotl Byte _ c.rotl.ensures m pc b rom ram)

pub returns-in-7 : goal.returns-in-7
unfolding turns
returns-in-7 c = λ m pc b rom ram. simp c.in-7.is (shift_obeys _ _ _ _ Rotr Byte _ c.rotr.ensures m pc b rom ram)

pub returns-in-8 : goal.returns-in-8
unfolding turns
returns-in-8 c = λ m pc b rom ram. simp c.in-8.is (shift_obeys _ _ _ _ Shll Word _ c.shll-in-8.ensures m pc b rom ram)

pub returns-in-9 : goal.returns-in-9
unfolding turns
returns-in-9 c = λ m pc b rom ram. simp c.in-9.is (shift_obeys _ _ _ _ Shlr Word _ c.shlr-in-9.ensures m pc b rom ram)

pub returns-in-10 : goal.returns-in-10
unfolding turns
returns-in-10 c = λ m pc b rom ram. simp c.in-10.is (shift_obeys _ _ _ _ Rotxl Word _ c.rotxl-in-10.ensures m pc b rom ram)

pub returns-in-11 : goal.returns-in-11
unfolding turns
returns-in-11 c = λ m pc b rom ram. simp c.in-11.is (shift_obeys _ _ _ _ Rotxr Word _ c.rotxr-in-11.ensures m pc b rom ram)

pub returns-in-12 : goal.returns-in-12
unfolding turns
returns-in-12 c = λ m pc b rom ram. simp c.in-12.is (shift_obeys _ _ _ _ Shal Word _ c.shal-in-12.ensures m pc b rom ram)

pub returns-in-13 : goal.returns-in-13
unfolding turns
returns-in-13 c = λ m pc b rom ram. simp c.in-13.is (shift_obeys _ _ _ _ Shar Word _ c.shar-in-13.ensures m pc b rom ram)

pub returns-in-14 : goal.returns-in-14
unfolding turns
returns-in-14 c = λ m pc b rom ram. simp c.in-14.is (shift_obeys _ _ _ _ Rotl Word _ c.rotl-in-14.ensures m pc b rom ram)

pub returns-in_default : goal.returns-in_default
unfolding turns
returns-in_default c = λ m pc b rom ram. let r = c.in_default.in_default-own.rest in simp (ne_eqb _ _ r.0.0.0.0.0.0.0.0.0.0.0.0.0.0.1, ne_eqb _ _ r.0.0.0.0.0.0.0.0.0.0.0.0.0.1, ne_eqb _ _ r.0.0.0.0.0.0.0.0.0.0.0.0.1, ne_eqb _ _ r.0.0.0.0.0.0.0.0.0.0.0.1, ne_eqb _ _ r.0.0.0.0.0.0.0.0.0.0.1, ne_eqb _ _ r.0.0.0.0.0.0.0.0.0.1, ne_eqb _ _ r.0.0.0.0.0.0.0.0.1, ne_eqb _ _ r.0.0.0.0.0.0.0.1, ne_eqb _ _ r.0.0.0.0.0.0.1, ne_eqb _ _ r.0.0.0.0.0.1, ne_eqb _ _ r.0.0.0.0.1, ne_eqb _ _ r.0.0.0.1, ne_eqb _ _ r.0.0.1, ne_eqb _ _ r.0.1, ne_eqb _ _ r.1) (shift_obeys _ _ _ _ Rotr Word _ c.rotr-in_default.ensures m pc b rom ram)
