use Prim.Native.Nat.{◌/◌, ◌%◌}
use mathlib.Core.Path.{refl, ap, ◌∙◌}
use borrow.Author.Tests.{ne_eqb}
use Rattle.registers.specs.declared.Registers.{Registers}
use Rattle.registers.specs.Lent.{lent}
use Rattle.registers.specs.Parts.{part_of}
use Rattle.timing.specs.Made.{base_of}
use Rattle.operate.specs.Results.{Effect}
use Rattle.multiply.specs.Multiply.{multiply_of}
use Rattle.moves.specs.Moves.{stepped}
use Rattle.products.specs.declared.Half.TheVariants.{Eight, Sixteen}
use Rattle.codes.specs.declared.Sign.TheVariants.{Unsigned, Signed}
use Rattle.codes.specs.declared.Target.TheVariants.{ByReg, Direct}
use Rattle.codes.specs.declared.Instruction.TheVariants.{Jmp, Jsr, Multiply, Divide}
use Rattle.step.specs.Follow.{aim_of, follow_of}
use Rattle.step.specs.Step.{effect_of}
use Rattle.entry.specs.Entry.{jumps}
use Rattle.turns.proofs.Laws.{done_acts, ended_acts}
use Rattle.transfer.proofs.Laws.{push_takes, call_acts}
use Rattle.transfer.proofs.jump.Goals as goal

pub returns-in-0 : goal.returns-in-0
unfolding jumps base_of part_of aim_of follow_of effect_of
returns-in-0 c = let a = c.args in rw (c.in-0.is, c.done.ensures, c.get.ensures) (record { did = done_acts (Jmp (ByReg (a.x % 8))) 2 _ a.er.now a.pc a.f a.b a.rom.now a.ram.now refl (λ (r : Registers). r) _ _ refl refl (λ _. refl); told = λ pc o. refl })

pub returns-in-1 : goal.returns-in-1
unfolding jumps base_of part_of aim_of follow_of effect_of
returns-in-1 c = let a = c.args in rw (c.in-1.is, c.done-in-1.ensures) (record { did = done_acts (Jmp (Direct (a.x % 16777216))) 4 _ a.er.now a.pc a.f a.b a.rom.now a.ram.now refl (λ (r : Registers). r) _ _ refl refl (λ _. refl); told = λ pc o. refl })

pub returns-in-2 : goal.returns-in-2
unfolding jumps base_of part_of aim_of follow_of effect_of
returns-in-2 c = let a = c.args in rw c.in-2.is record { did = c.jump_vector.ensures.did a.pc 2; told = c.jump_vector.ensures.told }

pub returns-in-3 : goal.returns-in-3
unfolding jumps base_of part_of aim_of follow_of effect_of
returns-in-3 c = let a = c.args in rw c.in-3.is record { did = c.call_near.ensures.did a.rom.now; told = c.call_near.ensures.told }

pub returns-in-4 : goal.returns-in-4
unfolding jumps base_of part_of aim_of follow_of effect_of
returns-in-4 c = let a = c.args in rw c.in-4.is record { did = c.call_far.ensures.did a.rom.now; told = c.call_far.ensures.told }

pub returns-in-5 : goal.returns-in-5
unfolding jumps base_of part_of aim_of follow_of effect_of
returns-in-5 c = let a = c.args in rw c.in-5.is record { did = (rw (c.next.ensures, c.get-in-5.ensures) at (c.called.ensures.did a.pc)) ∙ call_acts (Jsr (ByReg (a.x % 8))) 2 _ 4 a.er.now a.pc a.f a.b a.rom.now a.ram.now (push_takes a.b.site (lent a.er.now a.pc a.f) (Jsr (ByReg (a.x % 8))) refl) refl refl; told = c.called.ensures.told }

pub returns-in-6 : goal.returns-in-6
unfolding jumps base_of part_of aim_of follow_of effect_of
returns-in-6 c = let a = c.args in rw c.in-6.is record { did = (rw c.next-in-6.ensures at (c.called-in-6.ensures.did a.pc)) ∙ call_acts (Jsr (Direct (a.x % 16777216))) 4 _ 6 a.er.now a.pc a.f a.b a.rom.now a.ram.now (push_takes a.b.site (lent a.er.now a.pc a.f) (Jsr (Direct (a.x % 16777216))) refl) refl refl; told = c.called-in-6.ensures.told }

pub returns-in-7 : goal.returns-in-7
unfolding jumps base_of part_of aim_of follow_of effect_of
returns-in-7 c = rw c.in-7.is c.call_vector.ensures

pub returns-in-8 : goal.returns-in-8
unfolding jumps base_of part_of aim_of follow_of effect_of
returns-in-8 c = let a = c.args in rw (c.in-8.is, c.done-in-8.ensures, c.next-in-8.ensures) (record { did = done_acts (Multiply Unsigned Eight (a.x / 16 % 16) (a.x % 16)) 2 _ a.er.now a.pc a.f a.b a.rom.now a.ram.now refl (multiply_of Unsigned Eight (a.x / 16 % 16) (a.x % 16)) _ _ refl refl c.mulxu.ensures; told = λ pc o. refl })

pub returns-in-9 : goal.returns-in-9
unfolding jumps base_of part_of aim_of follow_of effect_of
returns-in-9 c = let a = c.args in rw (c.in-9.is, c.done-in-9.ensures, c.next-in-9.ensures) (record { did = done_acts (Multiply Unsigned Sixteen (a.x / 8 % 16) (a.x % 8)) 2 _ a.er.now a.pc a.f a.b a.rom.now a.ram.now refl (multiply_of Unsigned Sixteen (a.x / 8 % 16) (a.x % 8)) _ _ refl refl c.mulxu-in-9.ensures; told = λ pc o. refl })

pub returns-in-10 : goal.returns-in-10
unfolding jumps base_of part_of aim_of follow_of effect_of
returns-in-10 c = let a = c.args in rw (c.in-10.is, c.done-in-10.ensures, c.next-in-10.ensures) (record { did = done_acts (Multiply Signed Eight (a.x / 16 % 16) (a.x % 16)) 4 _ a.er.now a.pc a.f a.b a.rom.now a.ram.now refl (multiply_of Signed Eight (a.x / 16 % 16) (a.x % 16)) _ _ refl refl c.mulxs.ensures; told = λ pc o. refl })

pub returns-in-11 : goal.returns-in-11
unfolding jumps base_of part_of aim_of follow_of effect_of
returns-in-11 c = let a = c.args in rw (c.in-11.is, c.done-in-11.ensures, c.next-in-11.ensures) (record { did = done_acts (Multiply Signed Sixteen (a.x / 8 % 16) (a.x % 8)) 4 _ a.er.now a.pc a.f a.b a.rom.now a.ram.now refl (multiply_of Signed Sixteen (a.x / 8 % 16) (a.x % 8)) _ _ refl refl c.mulxs-in-11.ensures; told = λ pc o. refl })

pub returns-in-12 : goal.returns-in-12
unfolding jumps base_of part_of aim_of follow_of effect_of
returns-in-12 c = let a = c.args in rw (c.in-12.is, c.ended.ensures, c.next-in-12.ensures) (record { did = ended_acts (Divide Unsigned Eight (a.x / 16 % 16) (a.x % 16)) 2 _ a.er.now a.pc a.f a.b a.rom.now a.ram.now refl _ a.ram.now _ refl (ap (λ (q : Effect). stepped q a.ram.now) c.divxu.ensures); told = λ pc o. refl })

pub returns-in-13 : goal.returns-in-13
unfolding jumps base_of part_of aim_of follow_of effect_of
returns-in-13 c = let a = c.args in rw (c.in-13.is, c.ended-in-13.ensures, c.next-in-13.ensures) (record { did = ended_acts (Divide Unsigned Sixteen (a.x / 8 % 16) (a.x % 8)) 2 _ a.er.now a.pc a.f a.b a.rom.now a.ram.now refl _ a.ram.now _ refl (ap (λ (q : Effect). stepped q a.ram.now) c.divxu-in-13.ensures); told = λ pc o. refl })

pub returns-in-14 : goal.returns-in-14
unfolding jumps base_of part_of aim_of follow_of effect_of
returns-in-14 c = let a = c.args in rw (c.in-14.is, c.ended-in-14.ensures, c.next-in-14.ensures) (record { did = ended_acts (Divide Signed Eight (a.x / 16 % 16) (a.x % 16)) 4 _ a.er.now a.pc a.f a.b a.rom.now a.ram.now refl _ a.ram.now _ refl (ap (λ (q : Effect). stepped q a.ram.now) c.divxs.ensures); told = λ pc o. refl })

pub returns-in_default : goal.returns-in_default
unfolding jumps base_of part_of aim_of follow_of effect_of
returns-in_default c = let a = c.args in let r = c.in_default.in_default-own.rest in rw (ne_eqb _ _ r.0.0.0.0.0.0.0.0.0.0.0.0.0.0.1, ne_eqb _ _ r.0.0.0.0.0.0.0.0.0.0.0.0.0.1, ne_eqb _ _ r.0.0.0.0.0.0.0.0.0.0.0.0.1, ne_eqb _ _ r.0.0.0.0.0.0.0.0.0.0.0.1, ne_eqb _ _ r.0.0.0.0.0.0.0.0.0.0.1, ne_eqb _ _ r.0.0.0.0.0.0.0.0.0.1, ne_eqb _ _ r.0.0.0.0.0.0.0.0.1, ne_eqb _ _ r.0.0.0.0.0.0.0.1, ne_eqb _ _ r.0.0.0.0.0.0.1, ne_eqb _ _ r.0.0.0.0.0.1, ne_eqb _ _ r.0.0.0.0.1, ne_eqb _ _ r.0.0.0.1, ne_eqb _ _ r.0.0.1, ne_eqb _ _ r.0.1, ne_eqb _ _ r.1, c.ended-in_default.ensures, c.next-in_default.ensures) (record { did = ended_acts (Divide Signed Sixteen (a.x / 8 % 16) (a.x % 8)) 4 _ a.er.now a.pc a.f a.b a.rom.now a.ram.now refl _ a.ram.now _ refl (ap (λ (q : Effect). stepped q a.ram.now) c.divxs-in_default.ensures); told = λ pc o. refl })
