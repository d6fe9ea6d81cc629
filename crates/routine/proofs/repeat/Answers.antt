use Prim.Native.Nat.{◌-◌}
use mathlib.Core.Path.{◌≡◌, refl, sym, ◌∙◌}
use Rattle.std.specs.Prelude.{Option, None, Some}
use Rattle.routine.specs.declared.Ending.{Ending}
use mathlib.Core.List.{[]}
use native.Mathlib.Nat.{sub-zero}
use native.Mathlib.Omega.{arith}
use borrow.Author.Rules.{rules}
use Rattle.routine.proofs.Addresses.{none_carried}
use Rattle.routine.proofs.Loop.{stops, spent, few_steps, turn_again, turn_last}
use Rattle.routine.proofs.repeat.Goals as goal

none_of : (o : Option Ending) → ((w : Ending) → o ≡ Some w → ⊥) → o ≡ None
none_of None h = refl
none_of (Some w) h = absurd (h w refl)

pub loop-q-init : goal.loop-q-init
loop-q-init c = (search rules, search rules, search rules, c.requires.1, ([], rw c.none-kept.ensures none_carried, rw sub-zero))

pub turn-t-requires : goal.turn-t-requires
turn-t-requires c = let k = c.loop-q.invariant.4.1 in rw k.is k.most

pub overflow_add-steps : goal.overflow_add-steps
overflow_add-steps c =
    let a = c.args in
    let s = c.loop-q in
    omega (arith, few_steps a.b a.rom.now a.stop s.ram s.q s.invariant.4.0 s.steps s.states s.kept s.invariant.4.1 a.budget s.invariant.1 c.if-steps-budget.false s.invariant.3 c.if-q-stop.false c.turn-t.result _ c.turn-t.ensures, s.invariant.1, c.requires.0)

pub overflow_add-states : goal.overflow_add-states
overflow_add-states c = let s = c.loop-q in omega (arith, s.invariant.2, s.invariant.1, c.requires.0)

pub loop-q-smaller : goal.loop-q-smaller
loop-q-smaller c =
    let a = c.args in
    let s = c.loop-q in
    let g = turn_again a.b a.rom.now a.stop s.ram s.q s.invariant.4.0 s.steps s.states s.kept s.invariant.4.1 a.budget s.invariant.1 c.if-steps-budget.false s.invariant.3 c.if-q-stop.false c.turn-t.result _ c.turn-t.ensures (none_of c.turn-t.result.ends c.in_default.not-Some) in
    omega (arith, g.one, s.invariant.1, c.if-steps-budget.false)

pub loop-q-preserved : goal.loop-q-preserved
loop-q-preserved c =
    let a = c.args in
    let s = c.loop-q in
    let g = turn_again a.b a.rom.now a.stop s.ram s.q s.invariant.4.0 s.steps s.states s.kept s.invariant.4.1 a.budget s.invariant.1 c.if-steps-budget.false s.invariant.3 c.if-q-stop.false c.turn-t.result _ c.turn-t.ensures (none_of c.turn-t.result.ends c.in_default.not-Some) in (
      g.length_stays ∙ s.invariant.0,
      omega (arith, g.one, s.invariant.1, c.if-steps-budget.false),
      omega (arith, g.one, s.invariant.2),
      g.still_good,
      (g.xs, g.carries, sym g.goes ∙ s.invariant.4.2),
    )

pub returns-then-q-stop : goal.returns-then-q-stop
returns-then-q-stop c =
    let a = c.args in
    let s = c.loop-q in
    sym (stops a.b a.rom.now a.stop s.ram s.q s.invariant.4.0 s.steps s.states s.kept s.invariant.4.1 (a.budget - s.steps) c.if-q-stop.true) ∙ s.invariant.4.2

pub returns-then-steps-budget : goal.returns-then-steps-budget
returns-then-steps-budget c =
    let a = c.args in
    let s = c.loop-q in
    sym (spent a.b a.rom.now a.stop s.ram s.q s.invariant.4.0 s.steps s.states s.kept s.invariant.4.1 a.budget c.if-q-stop.false c.if-steps-budget.true) ∙ s.invariant.4.2

pub shape_of-ram-in-Some : goal.shape_of-ram-in-Some
shape_of-ram-in-Some c =
    let a = c.args in
    let s = c.loop-q in
    let g = turn_last a.b a.rom.now a.stop s.ram s.q s.invariant.4.0 s.steps s.states s.kept s.invariant.4.1 a.budget s.invariant.1 c.if-steps-budget.false s.invariant.3 c.if-q-stop.false c.turn-t.result _ c.turn-t.ensures _ c.in-Some.is in
    g.length_kept ∙ s.invariant.0

pub returns-in-Some : goal.returns-in-Some
returns-in-Some c =
    let a = c.args in
    let s = c.loop-q in
    let g = turn_last a.b a.rom.now a.stop s.ram s.q s.invariant.4.0 s.steps s.states s.kept s.invariant.4.1 a.budget s.invariant.1 c.if-steps-budget.false s.invariant.3 c.if-q-stop.false c.turn-t.result _ c.turn-t.ensures _ c.in-Some.is in
    sym g.told_as ∙ s.invariant.4.2
