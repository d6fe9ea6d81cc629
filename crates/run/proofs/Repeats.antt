-- A run on a right board is the repeated step: its steps and states are the counts of `Steps`. Assumes nothing.
use Rattle.std.specs.Prelude.{Result, Ok, Err}
use Prim.Native.Nat.{ℕ, zero, suc, ◌+◌, ◌≤◌, ◌<◌}
use mathlib.Core.Path.{◌≡◌, refl, ap}
use mathlib.Core.Bool.{Bool, true, false}
use mathlib.Core.List.{List}
use native.Mathlib.Omega.{arith}
use borrow.Author.Tests.{eqb-true, eqb-false, le-ltb}
use lib.Dec.{eqb}
use Rattle.refusal.specs.declared.Refusal.{Refusal}
use Rattle.registers.specs.declared.Registers.{Registers}
use Rattle.memory.specs.declared.Board.{Board}
use Rattle.machine.specs.Machine.{Steps, none, more}
use Rattle.step.specs.Step.{After, after, answered, good_start, step_of}
use Rattle.step.specs.Processor.{processor}
use Rattle.step.proofs.Laws.{step_refused}
use Rattle.run.specs.Run.{Ran, ran, told, run_from, run_of}
use Rattle.run.specs.Repeated.{state, Away, EndedBy, Repeated}
use Rattle.run.specs.declared.Ending.{Ending}
use Rattle.run.specs.declared.Ending.TheVariants.{AtStop, Spent, Halted}

module _ (b : Board) (rom : List ℕ) (stop budget : ℕ) where
  -- from r and ram, with `left` steps of the budget left after `steps` steps with `states` states
  record From (ram : List ℕ) (r : Registers) (steps states : ℕ) (a : Ran) : Type 0 where
    c : ℕ
    m : ℕ
    count : a.answer.steps ≡ steps + c
    sum : a.answer.states ≡ states + m
    led : Steps (processor b rom) (Away stop) (state r ram) c m (state a.answer.regs a.mem)
    ended : EndedBy b rom stop budget a.answer.steps (state a.answer.regs a.mem) a.answer.why

  at_once : (ram : List ℕ) (r : Registers) (steps states : ℕ) (why : Ending) → EndedBy b rom stop budget steps (state r ram) why
      → From ram r steps states (ran (told r steps states why) ram)
  at_once ram r steps states why e = record { c = 0; m = 0; count = omega arith; sum = omega arith; led = none; ended = e }

  -- a step, and then what follows
  one_more : (ram : List ℕ) (r : Registers) (steps states : ℕ) (a : Ran) → Away stop (state r ram) → (step_of b rom ram r).answer.outcome ≡ Ok tt
      → From (step_of b rom ram r).mem (step_of b rom ram r).answer.regs (steps + 1) (states + (step_of b rom ram r).answer.states) a → From ram r steps states a
  one_more ram r steps states a away d f =
      let does : step_of b rom ram r ≡ after (answered (step_of b rom ram r).answer.regs (step_of b rom ram r).answer.states (Ok tt)) (step_of b rom ram r).mem =
      ap (λ (o : Result (Unit {0}) Refusal). after (answered (step_of b rom ram r).answer.regs (step_of b rom ram r).answer.states o) (step_of b rom ram r).mem) d in
      record {
        c = f.c + 1;
        m = (step_of b rom ram r).answer.states + f.m;
        count = omega (arith, f.count);
        sum = omega (arith, f.sum);
        led = more away does f.led;
        ended = f.ended;
      }

  -- the budget is spent
  last : (ram : List ℕ) (r : Registers) (steps states : ℕ) → steps ≡ budget → (t : Bool) → eqb r.pc stop ≡ t
      → From ram r steps states (run_from b rom stop zero ram r steps states)
  unfolding run_from
  last ram r steps states e true h = rw h (at_once ram r steps states AtStop (eqb-true r.pc stop h))
  last ram r steps states e false h = rw h (at_once ram r steps states Spent (eqb-false r.pc stop h, e))

  turn : (n : ℕ) (ram : List ℕ) (r : Registers) (steps states : ℕ) → steps < budget
      → From (step_of b rom ram r).mem (step_of b rom ram r).answer.regs (steps + 1) (states + (step_of b rom ram r).answer.states)
      (run_from b rom stop n (step_of b rom ram r).mem (step_of b rom ram r).answer.regs (steps + 1) (states + (step_of b rom ram r).answer.states))
      → (t : Bool) → eqb r.pc stop ≡ t → (o : Result (Unit {0}) Refusal) → (step_of b rom ram r).answer.outcome ≡ o → From ram r steps states (run_from b rom stop (suc n) ram r steps states)
  unfolding run_from
  turn n ram r steps states l rest true h o d = rw h (at_once ram r steps states AtStop (eqb-true r.pc stop h))
  turn n ram r steps states l rest false h (Ok tt) d = rw (h, d) (one_more ram r steps states _ (eqb-false r.pc stop h) d rest)
  turn n ram r steps states l rest false h (Err f) d =
      let e = step_refused r b rom ram f d in
      let k : (step_of b rom ram r).mem ≡ ram = ap (λ (x : After). x.mem) e in
      rw (h, d, k) (at_once ram r steps states (Halted f) (eqb-false r.pc stop h, l, e))

  from : (left : ℕ) (ram : List ℕ) (r : Registers) (steps states : ℕ) → steps + left ≡ budget → From ram r steps states (run_from b rom stop left ram r steps states)
  from zero ram r steps states e = last ram r steps states (omega arith) _ refl
  from (suc n) ram r steps states e =
      turn n ram r steps states (omega arith)
      (from n (step_of b rom ram r).mem (step_of b rom ram r).answer.regs (steps + 1) (states + (step_of b rom ram r).answer.states) (omega arith))
      _
      refl
      _
      refl

  -- on a right board, from a PC that can be, within the allowed budget
  pub repeated : (ram : List ℕ) (r : Registers) → good_start b rom ram r ≡ true → budget ≤ 1000000
      → Repeated b rom ram r stop budget (run_of b rom ram r stop budget)
  unfolding run_of
  repeated ram r good small = rw (le-ltb 1000000 budget small, good) (whole (from budget ram r 0 0 (omega arith)))
    where
      whole : {a : Ran} → From ram r 0 0 a → Repeated b rom ram r stop budget a
      whole {a} f =
          let x : f.c ≡ a.answer.steps = omega (arith, f.count) in
          let y : f.m ≡ a.answer.states = omega (arith, f.sum) in
          record { led = rw (x, y) at f.led; ended = f.ended }
