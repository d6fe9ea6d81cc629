use borrow.Author.Tests.{ne_eqb}
use Rattle.arith.specs.declared.Width.TheVariants.{Byte, Word, Long}
use Rattle.codes.specs.declared.Turn.TheVariants.{Shll, Shlr, Rotxl, Rotxr, Shal, Shar, Rotl, Rotr}
use Rattle.codes.specs.declared.Single.TheVariants.{Not, Neg}
use Rattle.entry.specs.Entry.{long_turns}
use Rattle.execute.proofs.Laws.{shift_obeys, unary_obeys}
use Rattle.execute.proofs.turn_long.Goals as goal

pub returns-in-0 : goal.returns-in-0
unfolding long_turns
returns-in-0 c = λ m pc b rom ram. simp c.in-0.is (shift_obeys _ _ _ _ Shll Long _ c.shll.ensures m pc b rom ram)

pub returns-in-1 : goal.returns-in-1
unfolding long_turns
returns-in-1 c = λ m pc b rom ram. simp c.in-1.is (shift_obeys _ _ _ _ Shlr Long _ c.shlr.ensures m pc b rom ram)

pub returns-in-2 : goal.returns-in-2
unfolding long_turns
returns-in-2 c = λ m pc b rom ram. simp c.in-2.is (shift_obeys _ _ _ _ Rotxl Long _ c.rotxl.ensures m pc b rom ram)

pub returns-in-3 : goal.returns-in-3
unfolding long_turns
returns-in-3 c = λ m pc b rom ram. simp c.in-3.is (shift_obeys _ _ _ _ Rotxr Long _ c.rotxr.ensures m pc b rom ram)

pub returns-in-4 : goal.returns-in-4
unfolding long_turns
returns-in-4 c = λ m pc b rom ram. simp c.in-4.is (shift_obeys _ _ _ _ Shal Long _ c.shal.ensures m pc b rom ram)

pub returns-in-5 : goal.returns-in-5
unfolding long_turns
returns-in-5 c = λ m pc b rom ram. simp c.in-5.is (shift_obeys _ _ _ _ Shar Long _ c.shar.ensures m pc b rom ram)

pub returns-in-6 : goal.returns-in-6
unfolding long_turns
returns-in-6 c = λ m pc b rom ram. simp c.in-6.is (shift_obeys _ _ _ _ Rotl Long _ c.rotl.ensures m pc b rom ram)

pub returns-in-7 : goal.returns-in-7
unfolding long_turns
returns-in-7 c = λ m pc b rom ram. simp c.in-7.is (shift_obeys _ _ _ _ Rotr Long _ c.rotr.ensures m pc b rom ram)

pub returns-in-8 : goal.returns-in-8
unfolding long_turns
returns-in-8 c = λ m pc b rom ram. simp c.in-8.is (unary_obeys _ _ _ _ Not Byte _ c.not.ensures m pc b rom ram)

pub returns-in-9 : goal.returns-in-9
unfolding long_turns
returns-in-9 c = λ m pc b rom ram. simp c.in-9.is (unary_obeys _ _ _ _ Not Word _ c.not-in-9.ensures m pc b rom ram)

pub returns-in-10 : goal.returns-in-10
unfolding long_turns
returns-in-10 c = λ m pc b rom ram. simp c.in-10.is (unary_obeys _ _ _ _ Not Long _ c.not-in-10.ensures m pc b rom ram)

pub returns-in-11 : goal.returns-in-11
unfolding long_turns
returns-in-11 c = λ m pc b rom ram. simp c.in-11.is (unary_obeys _ _ _ _ Neg Byte _ c.neg.ensures m pc b rom ram)

pub returns-in-12 : goal.returns-in-12
unfolding long_turns
returns-in-12 c = λ m pc b rom ram. simp c.in-12.is (unary_obeys _ _ _ _ Neg Word _ c.neg-in-12.ensures m pc b rom ram)

pub returns-in_default : goal.returns-in_default
unfolding long_turns
returns-in_default c = λ m pc b rom ram. let r = c.in_default.in_default-own.rest in simp (ne_eqb _ _ r.0.0.0.0.0.0.0.0.0.0.0.0.1, ne_eqb _ _ r.0.0.0.0.0.0.0.0.0.0.0.1, ne_eqb _ _ r.0.0.0.0.0.0.0.0.0.0.1, ne_eqb _ _ r.0.0.0.0.0.0.0.0.0.1, ne_eqb _ _ r.0.0.0.0.0.0.0.0.1, ne_eqb _ _ r.0.0.0.0.0.0.0.1, ne_eqb _ _ r.0.0.0.0.0.0.1, ne_eqb _ _ r.0.0.0.0.0.1, ne_eqb _ _ r.0.0.0.0.1, ne_eqb _ _ r.0.0.0.1, ne_eqb _ _ r.0.0.1, ne_eqb _ _ r.0.1, ne_eqb _ _ r.1) (unary_obeys _ _ _ _ Neg Long _ c.neg-in_default.ensures m pc b rom ram)
