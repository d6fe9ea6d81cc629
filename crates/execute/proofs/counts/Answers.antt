use borrow.Author.Tests.{ne_eqb}
use Rattle.arith.specs.declared.Width.TheVariants.{Byte, Word, Long}
use Rattle.codes.specs.declared.Way.TheVariants.{Up, Down}
use Rattle.codes.specs.declared.By.TheVariants.{One, Two, Four}
use Rattle.entry.specs.Entry.{counts}
use Rattle.operate.specs.Operate.{inc_dec_of, adds_subs_of}
use Rattle.execute.proofs.Laws.{inc_dec_obeys, adds_subs_obeys}
use Rattle.execute.proofs.counts.Goals as goal

pub returns-in-0 : goal.returns-in-0
unfolding counts inc_dec_of adds_subs_of
returns-in-0 c = λ m pc b rom ram. simp c.in-0.is (inc_dec_obeys _ _ _ _ Up Byte One _ c.inc.ensures m pc b rom ram)

pub returns-in-1 : goal.returns-in-1
unfolding counts inc_dec_of adds_subs_of
returns-in-1 c = λ m pc b rom ram. simp c.in-1.is (inc_dec_obeys _ _ _ _ Down Byte One _ c.dec.ensures m pc b rom ram)

pub returns-in-2 : goal.returns-in-2
unfolding counts inc_dec_of adds_subs_of
returns-in-2 c = λ m pc b rom ram. simp c.in-2.is (inc_dec_obeys _ _ _ _ Up Word One _ c.inc-in-2.ensures m pc b rom ram)

pub returns-in-3 : goal.returns-in-3
unfolding counts inc_dec_of adds_subs_of
returns-in-3 c = λ m pc b rom ram. simp c.in-3.is (inc_dec_obeys _ _ _ _ Down Word One _ c.dec-in-3.ensures m pc b rom ram)

pub returns-in-4 : goal.returns-in-4
unfolding counts inc_dec_of adds_subs_of
returns-in-4 c = λ m pc b rom ram. simp c.in-4.is (inc_dec_obeys _ _ _ _ Up Word Two _ c.inc-in-4.ensures m pc b rom ram)

pub returns-in-5 : goal.returns-in-5
unfolding counts inc_dec_of adds_subs_of
returns-in-5 c = λ m pc b rom ram. simp c.in-5.is (inc_dec_obeys _ _ _ _ Down Word Two _ c.dec-in-5.ensures m pc b rom ram)

pub returns-in-6 : goal.returns-in-6
unfolding counts inc_dec_of adds_subs_of
returns-in-6 c = λ m pc b rom ram. simp c.in-6.is (inc_dec_obeys _ _ _ _ Up Long One _ c.inc-in-6.ensures m pc b rom ram)

pub returns-in-7 : goal.returns-in-7
unfolding counts inc_dec_of adds_subs_of
returns-in-7 c = λ m pc b rom ram. simp c.in-7.is (inc_dec_obeys _ _ _ _ Down Long One _ c.dec-in-7.ensures m pc b rom ram)

pub returns-in-8 : goal.returns-in-8
unfolding counts inc_dec_of adds_subs_of
returns-in-8 c = λ m pc b rom ram. simp c.in-8.is (inc_dec_obeys _ _ _ _ Up Long Two _ c.inc-in-8.ensures m pc b rom ram)

pub returns-in-9 : goal.returns-in-9
unfolding counts inc_dec_of adds_subs_of
returns-in-9 c = λ m pc b rom ram. simp c.in-9.is (inc_dec_obeys _ _ _ _ Down Long Two _ c.dec-in-9.ensures m pc b rom ram)

pub returns-in-10 : goal.returns-in-10
unfolding counts inc_dec_of adds_subs_of
returns-in-10 c = λ m pc b rom ram. simp c.in-10.is (adds_subs_obeys _ _ _ _ Up One _ c.raise.ensures m pc b rom ram)

pub returns-in-11 : goal.returns-in-11
unfolding counts inc_dec_of adds_subs_of
returns-in-11 c = λ m pc b rom ram. simp c.in-11.is (adds_subs_obeys _ _ _ _ Down One _ c.lower.ensures m pc b rom ram)

pub returns-in-12 : goal.returns-in-12
unfolding counts inc_dec_of adds_subs_of
returns-in-12 c = λ m pc b rom ram. simp c.in-12.is (adds_subs_obeys _ _ _ _ Up Two _ c.raise-in-12.ensures m pc b rom ram)

pub returns-in-13 : goal.returns-in-13
unfolding counts inc_dec_of adds_subs_of
returns-in-13 c = λ m pc b rom ram. simp c.in-13.is (adds_subs_obeys _ _ _ _ Down Two _ c.lower-in-13.ensures m pc b rom ram)

pub returns-in-14 : goal.returns-in-14
unfolding counts inc_dec_of adds_subs_of
returns-in-14 c = λ m pc b rom ram. simp c.in-14.is (adds_subs_obeys _ _ _ _ Up Four _ c.raise-in-14.ensures m pc b rom ram)

pub returns-in_default : goal.returns-in_default
unfolding counts inc_dec_of adds_subs_of
returns-in_default c = λ m pc b rom ram. let r = c.in_default.in_default-own.rest in simp (ne_eqb _ _ r.0.0.0.0.0.0.0.0.0.0.0.0.0.0.1, ne_eqb _ _ r.0.0.0.0.0.0.0.0.0.0.0.0.0.1, ne_eqb _ _ r.0.0.0.0.0.0.0.0.0.0.0.0.1, ne_eqb _ _ r.0.0.0.0.0.0.0.0.0.0.0.1, ne_eqb _ _ r.0.0.0.0.0.0.0.0.0.0.1, ne_eqb _ _ r.0.0.0.0.0.0.0.0.0.1, ne_eqb _ _ r.0.0.0.0.0.0.0.0.1, ne_eqb _ _ r.0.0.0.0.0.0.0.1, ne_eqb _ _ r.0.0.0.0.0.0.1, ne_eqb _ _ r.0.0.0.0.0.1, ne_eqb _ _ r.0.0.0.0.1, ne_eqb _ _ r.0.0.0.1, ne_eqb _ _ r.0.0.1, ne_eqb _ _ r.0.1, ne_eqb _ _ r.1) (adds_subs_obeys _ _ _ _ Down Four _ c.lower-in_default.ensures m pc b rom ram)
