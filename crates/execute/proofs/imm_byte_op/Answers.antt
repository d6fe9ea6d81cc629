use borrow.Author.Tests.{ne_eqb}
use Rattle.execute.proofs.imm_byte_op.Goals as goal

pub returns-in-0 : goal.returns-in-0
returns-in-0 c = λ pc. simp c.in-0.is (c.add.ensures pc)

pub returns-in-1 : goal.returns-in-1
returns-in-1 c = λ pc. simp c.in-1.is (c.sub.ensures pc)

pub returns-in-2 : goal.returns-in-2
returns-in-2 c = λ pc. simp c.in-2.is (c.cmp.ensures pc)

pub returns-in-3 : goal.returns-in-3
returns-in-3 c = λ pc. simp c.in-3.is (c.mov.ensures pc)

pub returns-in-4 : goal.returns-in-4
returns-in-4 c = λ pc. simp c.in-4.is (c.addx.ensures pc)

pub returns-in-5 : goal.returns-in-5
returns-in-5 c = λ pc. simp c.in-5.is (c.subx.ensures pc)

pub returns-in-6 : goal.returns-in-6
returns-in-6 c = λ pc. simp c.in-6.is (c.or.ensures pc)

pub returns-in-7 : goal.returns-in-7
returns-in-7 c = λ pc. simp c.in-7.is (c.xor.ensures pc)

pub returns-in_default : goal.returns-in_default
returns-in_default c = λ pc. let r = c.in_default.in_default-own.rest in simp (ne_eqb _ _ r.0.0.0.0.0.0.0.1, ne_eqb _ _ r.0.0.0.0.0.0.1, ne_eqb _ _ r.0.0.0.0.0.1, ne_eqb _ _ r.0.0.0.0.1, ne_eqb _ _ r.0.0.0.1, ne_eqb _ _ r.0.0.1, ne_eqb _ _ r.0.1, ne_eqb _ _ r.1) (c.and.ensures pc)
