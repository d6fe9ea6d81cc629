use Rattle.std.specs.Prelude.{Ok}
use Prim.Native.Nat.{ℕ, ◌-◌, ◌/◌, ◌%◌}
use mathlib.Core.Path.{◌≡◌, refl, sym, ◌∙◌, ap}
use mathlib.Core.List.{List}
use native.Mathlib.Nat.{sub-zero}
use native.Mathlib.Omega.{arith}
use lib.ListN.{length}
use borrow.Author.Rules.{rules}
use Rattle.registers.specs.Lent.{lent}
use Rattle.memory.specs.Board.{good_board}
use Rattle.entry.specs.Entry.{reg_short, reg_long, imm_byte, imm_word, imm_long, branch_near, branch_far, taken_in, given_in, by_kind}
use Rattle.step.specs.Step.{After, after, answered, act_of, fetch_of}
use Rattle.turns.specs.MirrorTurn.{told_in}
use Rattle.turns.proofs.Laws.{refused_stays, no_turn}
use Rattle.run.specs.MirrorTrail.{trail_at}
use Rattle.run.proofs.Quiet.{quiet_counted, quiet_turned, quiet_turned_long}
use Rattle.run.proofs.Turns.{no_kind, outside, by_kind_lem, by_trail, step_is, as_done, not_stopped, not_halted, turn_done, turn_refused, same_registers, same_memory, pc_fits, stops, spent, strayed, length_kept, still_good, goes_on, refused}
use Rattle.run.proofs.repeat.Reads as reads
use Rattle.run.proofs.repeat.Lts as lts
use Rattle.run.proofs.repeat.Tie as tie
use Rattle.run.proofs.repeat.Goals as goal
use Rattle.run.proofs.repeat.Goals.{in-0, in-1, in-2, in-3, in-4, in-5, in-6, in-7, in-8, in-9, in-10, in-11, in-12, in-13, in-14, in-15, in-16, in-17, in-18, in-19, in_default}

-- where the arms of the match meet
abbrev Met : Type 0
Met = lts.At-match-branch tie.the-claims reads.Pre reads.Post goal.the-invariant-loop-pc goal.the-decreases-loop-pc tie.handed_clauses

-- whichever group was called, it left what the step leaves
turned : (c : Met) → (
    let a = c.args in
    let s = c.loop-pc in
    after (told_in c.match-e-rem32.er s.pc c.match-e-rem32.t) c.match-e-rem32.ram ≡ fetch_of (lent s.er s.pc s.f) a.b a.rom.now s.ram)
unfolding by_kind act_of
turned c =
    let a = c.args in
    let s = c.loop-pc in
    let e = c.look-e in
    let by = by_kind_lem (lent s.er s.pc s.f) a.b a.rom.now s.ram e.result c.if-rom-at.false e.ensures.0 in
    elim c.match-e-rem32.branch [
      | in-0 w ↦ simp (w.ram-is, w.er-is, w.t-is) (by 0 w.in-0.is _ (w.reg_byte-t.ensures a.b a.rom.now s.ram))
      | in-1 w ↦ simp (w.ram-is, w.er-is, w.t-is) (by 1 w.in-1.is _ (w.reg_word-t.ensures a.b a.rom.now s.ram))
      | in-2 w ↦ simp (w.ram-is, w.er-is, w.t-is) (by 2 w.in-2.is _ (w.reg_long-t.ensures a.b a.rom.now s.ram))
      | in-3 w ↦ simp (w.ram-is, w.er-is, w.t-is) (by 3 w.in-3.is _ (w.imm_byte-t.ensures a.b a.rom.now s.ram))
      | in-4 w ↦ simp (w.ram-is, w.er-is, w.t-is) (by 4 w.in-4.is _ (w.imm_word-t.ensures a.b a.rom.now s.ram))
      | in-5 w ↦ simp (w.ram-is, w.er-is, w.t-is) (by 5 w.in-5.is _ (w.imm_long-t.ensures a.b a.rom.now s.ram))
      | in-6 w ↦ simp (w.ram-is, w.er-is, w.t-is) (by 6 w.in-6.is _ (w.counted-t.ensures a.b a.rom.now s.ram))
      | in-7 w ↦ simp (w.ram-is, w.er-is, w.t-is) (by 7 w.in-7.is _ (w.turned-t.ensures a.b a.rom.now s.ram))
      | in-8 w ↦ simp (w.ram-is, w.er-is, w.t-is) (by 8 w.in-8.is _ (w.turned_long-t.ensures a.b a.rom.now s.ram))
      | in-9 w ↦ simp (w.ram-is, w.er-is, w.t-is) (by 9 w.in-9.is _ w.single-t.ensures.did)
      | in-10 w ↦ simp (w.ram-is, w.er-is, w.t-is) (by 10 w.in-10.is _ w.byte-t.ensures.did)
      | in-11 w ↦ simp (w.ram-is, w.er-is, w.t-is) (by 11 w.in-11.is _ w.word-t.ensures.did)
      | in-12 w ↦ simp (w.ram-is, w.er-is, w.t-is) (by 12 w.in-12.is _ w.long-t.ensures.did)
      | in-13 w ↦ simp (w.ram-is, w.er-is, w.t-is) (by 13 w.in-13.is _ (w.branch_near-t.ensures s.er a.b a.rom.now s.ram))
      | in-14 w ↦ simp (w.ram-is, w.er-is, w.t-is) (by 14 w.in-14.is _ (w.branch_far-t.ensures s.er a.b a.rom.now s.ram))
      | in-15 w ↦ simp (w.ram-is, w.er-is, w.t-is) (by 15 w.in-15.is _ w.jump-t.ensures.did)
      | in-16 w ↦ simp (w.ram-is, w.er-is, w.t-is) (by 16 w.in-16.is _ (w.take-t.ensures a.b a.rom.now s.ram))
      | in-17 w ↦ simp (w.ram-is, w.er-is, w.t-is) (by 17 w.in-17.is _ (w.give-t.ensures a.b a.rom.now s.ram))
      | in-18 w ↦ simp (w.ram-is, w.er-is, w.t-is) (by 18 w.in-18.is _ w.take_at-t.ensures.did)
      | in-19 w ↦ simp (w.ram-is, w.er-is, w.t-is) (by 19 w.in-19.is _ w.give_at-t.ensures.did)
      | in_default w ↦ simp (w.ram-is, w.er-is, w.t-is, w.refuse-t.ensures) (by _ refl _ (simp (no_kind s.pc (e.result / 16 % 32) (e.result % 16) (e.result / 512) w.in_default.in_default-own.rest.0.0.0.0.0.0.0.0.0.0.0.0.0.0.0.0.0.0.0.1 w.in_default.in_default-own.rest.0.0.0.0.0.0.0.0.0.0.0.0.0.0.0.0.0.0.1 w.in_default.in_default-own.rest.0.0.0.0.0.0.0.0.0.0.0.0.0.0.0.0.0.1 w.in_default.in_default-own.rest.0.0.0.0.0.0.0.0.0.0.0.0.0.0.0.0.1 w.in_default.in_default-own.rest.0.0.0.0.0.0.0.0.0.0.0.0.0.0.0.1 w.in_default.in_default-own.rest.0.0.0.0.0.0.0.0.0.0.0.0.0.0.1 w.in_default.in_default-own.rest.0.0.0.0.0.0.0.0.0.0.0.0.0.1 w.in_default.in_default-own.rest.0.0.0.0.0.0.0.0.0.0.0.0.1 w.in_default.in_default-own.rest.0.0.0.0.0.0.0.0.0.0.0.1 w.in_default.in_default-own.rest.0.0.0.0.0.0.0.0.0.0.1 w.in_default.in_default-own.rest.0.0.0.0.0.0.0.0.0.1 w.in_default.in_default-own.rest.0.0.0.0.0.0.0.0.1 w.in_default.in_default-own.rest.0.0.0.0.0.0.0.1 w.in_default.in_default-own.rest.0.0.0.0.0.0.1 w.in_default.in_default-own.rest.0.0.0.0.0.1 w.in_default.in_default-own.rest.0.0.0.0.1 w.in_default.in_default-own.rest.0.0.0.1 w.in_default.in_default-own.rest.0.0.1 w.in_default.in_default-own.rest.0.1 w.in_default.in_default-own.rest.1, refused_stays)))
    ]

-- and it noted what the instruction at PC touches
trailed : (c : Met) → c.match-e-rem32.t.outcome ≡ Ok tt → (
    let a = c.args in
    let s = c.loop-pc in
    c.match-e-rem32.trail ≡ trail_at a.rom.now (lent s.er s.pc s.f))
unfolding reg_short reg_long imm_byte imm_word imm_long branch_near branch_far taken_in given_in by_kind
trailed c o =
    let a = c.args in
    let s = c.loop-pc in
    let e = c.look-e in
    let r = lent s.er s.pc s.f in
    let by = by_trail r a.b a.rom.now s.ram e.result c.if-rom-at.false e.ensures.0 in
    elim c.match-e-rem32.branch [
      | in-0 w ↦ w.trail-is ∙ by 0 w.in-0.is _ refl
      | in-1 w ↦ w.trail-is ∙ by 1 w.in-1.is _ refl
      | in-2 w ↦ w.trail-is ∙ by 2 w.in-2.is _ refl
      | in-3 w ↦ w.trail-is ∙ by 3 w.in-3.is _ refl
      | in-4 w ↦ w.trail-is ∙ by 4 w.in-4.is _ refl
      | in-5 w ↦ w.trail-is ∙ by 5 w.in-5.is _ refl
      | in-6 w ↦ w.trail-is ∙ by 6 w.in-6.is _ (quiet_counted r (e.result % 16) (e.result / 512))
      | in-7 w ↦ w.trail-is ∙ by 7 w.in-7.is _ (quiet_turned r (e.result % 16) (e.result / 512))
      | in-8 w ↦ w.trail-is ∙ by 8 w.in-8.is _ (quiet_turned_long r (e.result % 16) (e.result / 512))
      | in-9 w ↦ w.trail-is ∙ by 9 w.in-9.is _ (w.single-t.ensures.told s.pc (as_done w.t-is o))
      | in-10 w ↦ w.trail-is ∙ by 10 w.in-10.is _ (w.byte-t.ensures.told s.pc (as_done w.t-is o))
      | in-11 w ↦ w.trail-is ∙ by 11 w.in-11.is _ (w.word-t.ensures.told s.pc (as_done w.t-is o))
      | in-12 w ↦ w.trail-is ∙ by 12 w.in-12.is _ (w.long-t.ensures.told s.pc (as_done w.t-is o))
      | in-13 w ↦ w.trail-is ∙ by 13 w.in-13.is _ refl
      | in-14 w ↦ w.trail-is ∙ by 14 w.in-14.is _ refl
      | in-15 w ↦ w.trail-is ∙ by 15 w.in-15.is _ (w.jump-t.ensures.told s.pc (as_done w.t-is o))
      | in-16 w ↦ w.trail-is ∙ by 16 w.in-16.is _ refl
      | in-17 w ↦ w.trail-is ∙ by 17 w.in-17.is _ refl
      | in-18 w ↦ w.trail-is ∙ by 18 w.in-18.is _ (w.take_at-t.ensures.told s.pc (as_done w.t-is o))
      | in-19 w ↦ w.trail-is ∙ by 19 w.in-19.is _ (w.give_at-t.ensures.told s.pc (as_done w.t-is o))
      | in_default w ↦ absurd (no_turn _ _ _ w.refuse-t.ensures (as_done w.t-is o))
    ]

pub loop-pc-init : goal.loop-pc-init
loop-pc-init c = (search rules, search rules, search rules, omega arith, rw sub-zero, c.requires.1, c.requires.2, λ z. refl, λ n. absurd (n refl))

pub strays-requires : goal.strays-requires
strays-requires c = let s = c.loop-pc in record { there = λ h. omega (arith, c.requires.3.there h, s.invariant.2, c.if-steps-budget.false) }

pub overflow_cast-at : goal.overflow_cast-at
overflow_cast-at c = let a = c.args in let s = c.loop-pc in let h = pc_fits (good_board a.b (length a.rom.now) (length s.ram)) s.pc s.invariant.5 in omega arith

pub look-e-requires : goal.look-e-requires
look-e-requires c = let a = c.args in let s = c.loop-pc in let h = pc_fits (good_board a.b (length a.rom.now) (length s.ram)) s.pc s.invariant.5 in (c.if-rom-at.false, h.0, h.1, s.invariant.6)

pub overflow_cast-states-in-loop-pc : goal.overflow_cast-states-in-loop-pc
overflow_cast-states-in-loop-pc c = omega arith

pub overflow_add-states : goal.overflow_add-states
overflow_add-states c = let s = c.loop-pc in omega (arith, s.invariant.2, s.invariant.3, c.requires.0)

pub overflow_add-steps : goal.overflow_add-steps
overflow_add-steps c = let s = c.loop-pc in omega (arith, s.invariant.2, c.requires.0)

pub loop-pc-smaller : goal.loop-pc-smaller
loop-pc-smaller c = let s = c.loop-pc in omega (arith, s.invariant.2, c.if-steps-budget.false)

pub loop-pc-preserved : goal.loop-pc-preserved
loop-pc-preserved c = let m = c in
    let a = m.args in
    let s = m.loop-pc in
    let r = lent s.er s.pc s.f in
    let t = m.match-e-rem32.t in
    let n = answered (lent m.match-e-rem32.er c.pc-pc.result t.condition) t.states (Ok tt) in
    let e : after n m.match-e-rem32.ram ≡ fetch_of r a.b a.rom.now s.ram = rw c.pc-pc.ensures (turn_done s.er m.match-e-rem32.er s.pc s.f t a.b a.rom.now s.ram m.match-e-rem32.ram (turned (c.before.before.before.before.before)) c.in-Ok.is) in (
      search (rules, m.lines-1.given, s.invariant.0),
      length_kept a.b a.rom.now a.stop a.records.now s.ram r s.steps s.states s.invariant.5 n m.match-e-rem32.ram e refl ∙ s.invariant.1,
      omega (arith, s.invariant.2, m.if-steps-budget.false),
      omega (arith, s.invariant.3),
      sym (goes_on a.b a.rom.now a.stop a.records.now s.ram r s.steps s.states s.invariant.5 n m.match-e-rem32.ram e a.budget m.if-pc-stop.false s.invariant.2 m.if-steps-budget.false (sym m.strays.ensures ∙ m.if-strays.false) refl) ∙ s.invariant.4,
      still_good a.b a.rom.now a.stop a.records.now s.ram r s.steps s.states s.invariant.5 n m.match-e-rem32.ram e refl,
      m.look-e.ensures.1,
      λ z. absurd (omega (arith, z)),
      λ z.
          record {
            begun = r;
            held = s.ram;
            led = ap (λ (x : After). x.answer.regs) (step_is a.b a.rom.now a.stop a.records.now s.ram r s.steps s.states s.invariant.5 n m.match-e-rem32.ram e);
            only = λ h. s.invariant.7 (omega (arith, h));
            tells = trailed (c.before.before.before.before.before) c.in-Ok.is;
          },
    )

pub returns-then-pc-stop : goal.returns-then-pc-stop
returns-then-pc-stop c = let a = c.args in
    let s = c.loop-pc in
    record { did = sym (stops a.b a.rom.now a.stop a.records.now s.ram (lent s.er s.pc s.f) s.steps s.states (a.budget - s.steps) c.if-pc-stop.true) ∙ s.invariant.4; told = λ h n. absurd (not_stopped h) }

pub returns-then-steps-budget : goal.returns-then-steps-budget
returns-then-steps-budget c = let a = c.args in
    let s = c.loop-pc in
    record { did = sym (spent a.b a.rom.now a.stop a.records.now s.ram (lent s.er s.pc s.f) s.steps s.states a.budget c.if-pc-stop.false c.if-steps-budget.true) ∙ s.invariant.4; told = λ h n. s.invariant.8 n }

pub returns-then-strays : goal.returns-then-strays
returns-then-strays c = let a = c.args in
    let s = c.loop-pc in
    record { did = sym (strayed a.b a.rom.now a.stop a.records.now s.ram (lent s.er s.pc s.f) s.steps s.states a.budget c.if-pc-stop.false s.invariant.2 c.if-steps-budget.false (sym c.strays.ensures ∙ c.if-strays.true)) ∙ s.invariant.4; told = λ h n. absurd (not_stopped h) }

pub returns-then-rom-at : goal.returns-then-rom-at
returns-then-rom-at c = let a = c.args in
    let s = c.loop-pc in
    let r = lent s.er s.pc s.f in
    record { did = sym (refused a.b a.rom.now a.stop a.records.now s.ram r s.steps s.states s.invariant.5 _ _ (outside r a.b a.rom.now s.ram c.if-rom-at.true) a.budget c.if-pc-stop.false s.invariant.2 c.if-steps-budget.false (sym c.strays.ensures ∙ c.if-strays.false) _ refl) ∙ s.invariant.4; told = λ h n. absurd (not_halted h) }

pub shape_of-lines-in-Err : goal.shape_of-lines-in-Err
shape_of-lines-in-Err c = search (rules, c.lines-1.given, c.loop-pc.invariant.0)

pub shape_of-ram-in-Err : goal.shape_of-ram-in-Err
shape_of-ram-in-Err c = let m = c in
    let a = m.args in
    let s = m.loop-pc in
    ap (λ (l : List ℕ). length l) (same_memory s.er m.match-e-rem32.er s.pc s.f m.match-e-rem32.t a.b a.rom.now s.ram m.match-e-rem32.ram (turned (c.before.before)) _ c.in-Err.is) ∙ s.invariant.1

pub returns-in-Err : goal.returns-in-Err
returns-in-Err c = let m = c in
    let a = m.args in
    let s = m.loop-pc in
    let r = lent s.er s.pc s.f in
    let x = c.in-Err.is in
    let e = turn_refused s.er m.match-e-rem32.er s.pc s.f m.match-e-rem32.t a.b a.rom.now s.ram m.match-e-rem32.ram (turned (c.before.before)) _ x in record {
      did = rw (same_registers s.er m.match-e-rem32.er s.pc s.f m.match-e-rem32.t a.b a.rom.now s.ram m.match-e-rem32.ram (turned (c.before.before)) _ x)
          (sym (refused a.b a.rom.now a.stop a.records.now s.ram r s.steps s.states s.invariant.5 _ _ e a.budget m.if-pc-stop.false s.invariant.2 m.if-steps-budget.false (sym m.strays.ensures ∙ m.if-strays.false) _ refl) ∙ s.invariant.4);
      told = λ h n. absurd (not_halted h);
    }
