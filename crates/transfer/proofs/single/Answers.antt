use Prim.Native.Nat.{◌%◌}
use mathlib.Core.Path.{refl, ap}
use borrow.Author.Tests.{ne_eqb}
use Rattle.arith.specs.declared.Width.TheVariants.{Word, Long}
use Rattle.registers.specs.declared.Registers.{Registers}
use Rattle.operate.specs.Results.{Effect}
use Rattle.operate.specs.Operate.{stc_of, ldc_of, ccr_of, unary_of}
use Rattle.moves.specs.Moves.{stepped}
use Rattle.codes.specs.declared.Way.TheVariants.{Up, Down}
use Rattle.codes.specs.declared.Change.TheVariants.{Orc, Xorc, Andc, Ldc}
use Rattle.codes.specs.declared.Single.TheVariants.{Extu, Exts}
use Rattle.codes.specs.declared.Instruction.TheVariants.{Nop, Stc, LdcReg, Ccr, Decimal, Unary}
use Rattle.step.specs.Follow.{follow_of}
use Rattle.step.specs.Step.{after, effect_of, act_of}
use Rattle.step.specs.declared.StepAnswer.{StepAnswer}
use Rattle.entry.specs.Entry.{single}
use Rattle.turns.proofs.Laws.{done_acts, ended_acts, refused_stays}
use Rattle.transfer.proofs.single.Goals as goal

pub returns-in-0 : goal.returns-in-0
unfolding single follow_of effect_of act_of
returns-in-0 c = let a = c.args in rw (c.in-0.is, c.done.ensures, c.next-next.ensures) (record { did = done_acts (Nop) 2 _ a.er.now a.pc a.f a.b a.rom.now a.ram.now refl (λ (r : Registers). r) _ _ refl refl (λ _. refl); told = λ pc o. refl })

pub returns-in-1 : goal.returns-in-1
unfolding single follow_of effect_of act_of
returns-in-1 c = let a = c.args in rw (c.in-1.is, c.done-in-1.ensures, c.next-next.ensures) (record { did = done_acts (Stc (a.x % 16)) 2 _ a.er.now a.pc a.f a.b a.rom.now a.ram.now refl (stc_of (a.x % 16)) _ _ refl refl c.stc.ensures; told = λ pc o. refl })

pub returns-in-2 : goal.returns-in-2
unfolding single follow_of effect_of act_of
returns-in-2 c = let a = c.args in rw (c.in-2.is, c.done-in-2.ensures, c.next-next.ensures) (record { did = done_acts (LdcReg (a.x % 16)) 2 _ a.er.now a.pc a.f a.b a.rom.now a.ram.now refl (ldc_of (a.x % 16)) _ _ refl refl (c.ldc_reg.ensures a.f); told = λ pc o. refl })

pub returns-in-3 : goal.returns-in-3
unfolding single follow_of effect_of act_of
returns-in-3 c = let a = c.args in rw (c.in-3.is, c.done-in-3.ensures, c.next-next.ensures) (record { did = done_acts (Ccr Orc (a.x % 256)) 2 _ a.er.now a.pc a.f a.b a.rom.now a.ram.now refl (ccr_of Orc (a.x % 256)) _ _ refl refl (c.orc.ensures a.er.now); told = λ pc o. refl })

pub returns-in-4 : goal.returns-in-4
unfolding single follow_of effect_of act_of
returns-in-4 c = let a = c.args in rw (c.in-4.is, c.done-in-4.ensures, c.next-next.ensures) (record { did = done_acts (Ccr Xorc (a.x % 256)) 2 _ a.er.now a.pc a.f a.b a.rom.now a.ram.now refl (ccr_of Xorc (a.x % 256)) _ _ refl refl (c.xorc.ensures a.er.now); told = λ pc o. refl })

pub returns-in-5 : goal.returns-in-5
unfolding single follow_of effect_of act_of
returns-in-5 c = let a = c.args in rw (c.in-5.is, c.done-in-5.ensures, c.next-next.ensures) (record { did = done_acts (Ccr Andc (a.x % 256)) 2 _ a.er.now a.pc a.f a.b a.rom.now a.ram.now refl (ccr_of Andc (a.x % 256)) _ _ refl refl (c.andc.ensures a.er.now); told = λ pc o. refl })

pub returns-in-6 : goal.returns-in-6
unfolding single follow_of effect_of act_of
returns-in-6 c = let a = c.args in rw (c.in-6.is, c.done-in-6.ensures, c.next-next.ensures) (record { did = done_acts (Ccr Ldc (a.x % 256)) 2 _ a.er.now a.pc a.f a.b a.rom.now a.ram.now refl (ccr_of Ldc (a.x % 256)) _ _ refl refl (c.ldc.ensures a.f a.er.now); told = λ pc o. refl })

pub returns-in-7 : goal.returns-in-7
unfolding single follow_of effect_of act_of
returns-in-7 c = let a = c.args in rw (c.in-7.is, c.done-in-7.ensures, c.next-next.ensures) (record { did = done_acts (Unary Extu Word (a.x % 16)) 2 _ a.er.now a.pc a.f a.b a.rom.now a.ram.now refl (unary_of Extu Word (a.x % 16)) _ _ refl refl c.extu.ensures; told = λ pc o. refl })

pub returns-in-8 : goal.returns-in-8
unfolding single follow_of effect_of act_of
returns-in-8 c = let a = c.args in rw (c.in-8.is, c.done-in-8.ensures, c.next-next.ensures) (record { did = done_acts (Unary Extu Long (a.x % 16)) 2 _ a.er.now a.pc a.f a.b a.rom.now a.ram.now refl (unary_of Extu Long (a.x % 16)) _ _ refl refl c.extu-in-8.ensures; told = λ pc o. refl })

pub returns-in-9 : goal.returns-in-9
unfolding single follow_of effect_of act_of
returns-in-9 c = let a = c.args in rw (c.in-9.is, c.done-in-9.ensures, c.next-next.ensures) (record { did = done_acts (Unary Exts Word (a.x % 16)) 2 _ a.er.now a.pc a.f a.b a.rom.now a.ram.now refl (unary_of Exts Word (a.x % 16)) _ _ refl refl c.exts.ensures; told = λ pc o. refl })

pub returns-in-10 : goal.returns-in-10
unfolding single follow_of effect_of act_of
returns-in-10 c = let a = c.args in rw (c.in-10.is, c.done-in-10.ensures, c.next-next.ensures) (record { did = done_acts (Unary Exts Long (a.x % 16)) 2 _ a.er.now a.pc a.f a.b a.rom.now a.ram.now refl (unary_of Exts Long (a.x % 16)) _ _ refl refl c.exts-in-10.ensures; told = λ pc o. refl })

pub returns-in-11 : goal.returns-in-11
unfolding single follow_of effect_of act_of
returns-in-11 c = let a = c.args in rw (c.in-11.is, c.ended.ensures, c.next-next.ensures) (record { did = ended_acts (Decimal Up (a.x % 16)) 2 _ a.er.now a.pc a.f a.b a.rom.now a.ram.now refl _ a.ram.now _ refl (ap (λ (q : Effect). stepped q a.ram.now) c.daa.ensures); told = λ pc o. refl })

pub returns-in-12 : goal.returns-in-12
unfolding single follow_of effect_of act_of
returns-in-12 c = let a = c.args in rw (c.in-12.is, c.ended-in-12.ensures, c.next-next.ensures) (record { did = ended_acts (Decimal Down (a.x % 16)) 2 _ a.er.now a.pc a.f a.b a.rom.now a.ram.now refl _ a.ram.now _ refl (ap (λ (q : Effect). stepped q a.ram.now) c.das.ensures); told = λ pc o. refl })

pub returns-in-13 : goal.returns-in-13
unfolding single follow_of effect_of act_of
returns-in-13 c = let a = c.args in rw c.in-13.is record { did = c.returned.ensures.did a.pc 2; told = c.returned.ensures.told }

pub returns-in-14 : goal.returns-in-14
unfolding single follow_of effect_of act_of
returns-in-14 c = let a = c.args in rw (c.in-14.is, c.refuse.ensures, c.refusal.ensures) (record { did = ap (λ (q : StepAnswer). after q a.ram.now) (refused_stays _ _ _ _); told = λ pc o. refl })

pub returns-in_default : goal.returns-in_default
unfolding single follow_of effect_of act_of
returns-in_default c = let a = c.args in let r = c.in_default.in_default-own.rest in rw (ne_eqb _ _ r.0.0.0.0.0.0.0.0.0.0.0.0.0.0.1, ne_eqb _ _ r.0.0.0.0.0.0.0.0.0.0.0.0.0.1, ne_eqb _ _ r.0.0.0.0.0.0.0.0.0.0.0.0.1, ne_eqb _ _ r.0.0.0.0.0.0.0.0.0.0.0.1, ne_eqb _ _ r.0.0.0.0.0.0.0.0.0.0.1, ne_eqb _ _ r.0.0.0.0.0.0.0.0.0.1, ne_eqb _ _ r.0.0.0.0.0.0.0.0.1, ne_eqb _ _ r.0.0.0.0.0.0.0.1, ne_eqb _ _ r.0.0.0.0.0.0.1, ne_eqb _ _ r.0.0.0.0.0.1, ne_eqb _ _ r.0.0.0.0.1, ne_eqb _ _ r.0.0.0.1, ne_eqb _ _ r.0.0.1, ne_eqb _ _ r.0.1, ne_eqb _ _ r.1, c.refuse-in_default.ensures) (record { did = ap (λ (q : StepAnswer). after q a.ram.now) (refused_stays _ _ _ _); told = λ pc o. refl })
