use mathlib.Core.Bool.{true, false}
use mathlib.Core.List.{List, [], ◌++◌}
use mathlib.Core.Path.{◌≡◌, refl, sym, ◌∙◌}
use Rattle.std.specs.Prelude.{Result, Ok, Err}
use Rattle.std.specs.Result.{is_err}
use Rattle.std.proofs.Common.{arith, length, ap, length-append}
use Rattle.std.proofs.Math.Nat.{min-le_left}
use Rattle.std.proofs.lemmas.List.{take_all, length-take}
use Rattle.refusal.specs.declared.Refusal.{Refusal}
use Rattle.memory.specs.Trail.{trail_in}
use Rattle.memory.specs.declared.told.Access.{Access}
use Rattle.watch.specs.Watch.{listed}
use Rattle.watch.proofs.unpacked.Goals as goal

when_done : (o : Result (Unit {0}) Refusal) (xs : List Access) → is_err o ≡ false → listed o xs ≡ xs
unfolding listed
when_done (Ok tt) xs e = refl
when_done (Err f) xs e = cc

when_refused : (o : Result (Unit {0}) Refusal) (xs : List Access) → is_err o ≡ true → listed o xs ≡ []
unfolding listed
when_refused (Ok tt) xs e = cc
when_refused (Err f) xs e = refl

pub returns-then-is_err-clause-list : goal.returns-then-is_err-clause-list
returns-then-is_err-clause-list c = c.new.ensures ∙ sym (when_refused c.args.o (trail_in c.args.trail) (sym c.is_err.ensures.value ∙ c.if-is_err.true))

pub returns-clause-list : goal.returns-clause-list
unfolding trail_in
returns-clause-list c =
    let e = c.unpack-list.ensures in
    let l = c.unpack-later.ensures in
    let n = length-append c.unpack-list.result.items c.unpack-later.result.items in
    c.append.ensures
    ∙ take_all 4 (c.unpack-list.result.items ++ c.unpack-later.result.items) (omega (arith, n, e.few, l.few))
    ∙ rw (e.call, l.call, when_done c.args.o (trail_in c.args.trail) (sym c.is_err.ensures.value ∙ c.if-is_err.false)) refl

pub returns-clause-few : goal.returns-clause-few
returns-clause-few c =
    let s = c.unpack-list.result.items ++ c.unpack-later.result.items in
    let e = ap length c.append.ensures ∙ length-take 4 s in
    let m = min-le_left 4 (length s) in
    omega (arith, e, m)
