use borrow.Author.Tests.{ne_eqb}
use Rattle.arith.specs.declared.Width.TheVariants.{Long}
use Rattle.codes.specs.declared.Op.TheVariants.{Add, Sub, Cmp, Mov, Addx, Subx, Or, Xor, And}
use Rattle.execute.proofs.Laws.{past_five, reg_obeys}
use Rattle.execute.proofs.reg_long_op.Goals as goal

pub returns-in-0 : goal.returns-in-0
returns-in-0 c = λ e s b rom ram. simp (c.in-0.is, c.done.ensures, c.next.ensures) (reg_obeys _ _ _ _ Add Long e _ (λ pc. rw s at (c.add.ensures pc)) 2 _ b rom ram)

pub returns-in-1 : goal.returns-in-1
returns-in-1 c = λ e s b rom ram. simp (c.in-1.is, c.done-in-1.ensures, c.next-in-1.ensures) (reg_obeys _ _ _ _ Sub Long e _ (λ pc. rw s at (c.sub.ensures pc)) 2 _ b rom ram)

pub returns-in-2 : goal.returns-in-2
returns-in-2 c = λ e s b rom ram. simp (c.in-2.is, c.done-in-2.ensures, c.next-in-2.ensures) (reg_obeys _ _ _ _ Cmp Long e _ (λ pc. rw s at (c.cmp.ensures pc)) 2 _ b rom ram)

pub returns-in-3 : goal.returns-in-3
returns-in-3 c = λ e s b rom ram. simp (c.in-3.is, c.done-in-3.ensures, c.next-in-3.ensures) (reg_obeys _ _ _ _ Mov Long e _ (λ pc. rw s at (c.mov.ensures pc)) 2 _ b rom ram)

pub returns-in-4 : goal.returns-in-4
returns-in-4 c = λ e s b rom ram. simp (c.in-4.is, c.done-in-4.ensures, c.next-in-4.ensures) (reg_obeys _ _ _ _ Addx Long e _ (λ pc. rw s at (c.addx.ensures pc)) 2 _ b rom ram)

pub returns-in-5 : goal.returns-in-5
returns-in-5 c = λ e s b rom ram. simp (c.in-5.is, c.done-in-5.ensures, c.next-in-5.ensures) (reg_obeys _ _ _ _ Subx Long e _ (λ pc. rw s at (c.subx.ensures pc)) 2 _ b rom ram)

pub returns-in-6 : goal.returns-in-6
returns-in-6 c = λ e s b rom ram. simp (c.in-6.is, c.done-in-6.ensures, c.next-in-6.ensures) (reg_obeys _ _ _ _ Or Long e _ (λ pc. rw s at (c.or.ensures pc)) 4 _ b rom ram)

pub returns-in-7 : goal.returns-in-7
returns-in-7 c = λ e s b rom ram. simp (c.in-7.is, c.done-in-7.ensures, c.next-in-7.ensures) (reg_obeys _ _ _ _ Xor Long e _ (λ pc. rw s at (c.xor.ensures pc)) 4 _ b rom ram)

pub returns-in_default : goal.returns-in_default
returns-in_default c = λ e s b rom ram. let r = c.in_default.in_default-own.rest in simp (ne_eqb _ _ r.0.0.0.0.0.0.0.1, ne_eqb _ _ r.0.0.0.0.0.0.1, ne_eqb _ _ r.0.0.0.0.0.1, ne_eqb _ _ r.0.0.0.0.1, ne_eqb _ _ r.0.0.0.1, ne_eqb _ _ r.0.0.1, ne_eqb _ _ r.0.1, ne_eqb _ _ r.1, past_five _ r.0.0.0.0.0.0.0.1 r.0.0.0.0.0.0.1 r.0.0.0.0.0.1 r.0.0.0.0.1 r.0.0.0.1 r.0.0.1, c.done-in_default.ensures, c.next-in_default.ensures) (reg_obeys _ _ _ _ And Long e _ (λ pc. rw s at (c.and.ensures pc)) 4 _ b rom ram)
