-- A run of one step is the step.
use Rattle.std.specs.Prelude.{Result, Ok, Err}
use Prim.Native.Nat.{ℕ, ◌+◌, ◌%◌, ◌<◌}
use mathlib.Core.Path.{◌≡◌, refl, sym, ◌∙◌, ap}
use mathlib.Core.Bool.{Bool, true, false, cond}
use mathlib.Core.List.{List}
use native.Mathlib.Nat.{mod-eq_of_lt}
use native.Mathlib.Omega.{arith}
use borrow.Author.Tests.{ne_eqb}
use lib.Dec.{eqb}
use lib.ListN.{length}
use Rattle.refusal.specs.declared.Refusal.{Refusal}
use Rattle.registers.specs.declared.Registers.{Registers}
use Rattle.memory.specs.Board.{good_board}
use Rattle.memory.specs.declared.Board.{Board}
use Rattle.step.specs.Step.{After, after, answered, good_pc, good_start, fetch_of, step_of}
use Rattle.step.proofs.Laws.{step_is, step_refused, step_states, fetch_keeps}
use Rattle.run.specs.Run.{Ran, ran, told, onward, run_from, run_of}
use Rattle.run.proofs.Turns.{both, pc_fits}
use Rattle.run.specs.MirrorSingle.{outcome_of}
use Rattle.run.specs.MirrorTrail.{trail_at, Tells}
use Rattle.run.specs.declared.Noted.{Noted}
use Rattle.run.specs.declared.RunAnswer.{RunAnswer}
use Rattle.run.specs.declared.Ending.TheVariants.{AtStop, Spent, Halted}

-- the step's answer, read off the run's
abbrev pub one : Ran → After
one x = after (answered x.answer.regs (x.answer.states % 4294967296) (outcome_of x.answer.why)) x.mem

module _ (b : Board) (rom ram : List ℕ) (r : Registers) where
  -- PC is not the odd stop address
  off : good_pc r.pc ≡ true → eqb r.pc 1 ≡ false
  off g = let h = pc_fits true r.pc g in ne_eqb r.pc 1 (λ k. absurd (omega arith))

  last : (t : Bool) (q : Registers) (m : List ℕ) (n : ℕ) → one (cond t (ran (told q (0 + 1) n AtStop) m) (ran (told q (0 + 1) n Spent) m)) ≡ after (answered q (n % 4294967296) (Ok tt)) m
  last true q m n = refl
  last false q m n = refl

  small : (0 + (step_of b rom ram r).answer.states) % 4294967296 ≡ (step_of b rom ram r).answer.states
  small =
      let l : 0 + (step_of b rom ram r).answer.states < 4294967296 = omega (arith, step_states r b rom ram) in
      let e : 0 + (step_of b rom ram r).answer.states ≡ (step_of b rom ram r).answer.states = omega arith in mod-eq_of_lt l ∙ e

  turned : (o : Result (Unit {0}) Refusal) → (step_of b rom ram r).answer.outcome ≡ o
      → one (onward o (run_from b rom 1 0 (step_of b rom ram r).mem (step_of b rom ram r).answer.regs (0 + 1) (0 + (step_of b rom ram r).answer.states)) (λ f. ran (told r 0 0 (Halted f)) (step_of b rom ram r).mem)) ≡ step_of b rom ram r
  unfolding run_from
  turned (Ok tt) d =
      last (eqb (step_of b rom ram r).answer.regs.pc 1) (step_of b rom ram r).answer.regs (step_of b rom ram r).mem (0 + (step_of b rom ram r).answer.states)
      ∙ rw small (ap (λ (o : Result (Unit {0}) Refusal). after (answered (step_of b rom ram r).answer.regs (step_of b rom ram r).answer.states o) (step_of b rom ram r).mem) (sym d))
  turned (Err f) d =
      let e = step_refused r b rom ram f d in
      let k : (step_of b rom ram r).mem ≡ ram = ap (λ (x : After). x.mem) e in
      ap (λ (m : List ℕ). after (answered r 0 (Err f)) m) k ∙ sym e

  started : good_start b rom ram r ≡ true → run_of b rom ram r 1 1 ≡ run_from b rom 1 1 ram r 0 0
  unfolding run_of
  started e = rw e

  goes : eqb r.pc 1 ≡ false → one (run_from b rom 1 1 ram r 0 0) ≡ step_of b rom ram r
  unfolding run_from
  goes e = rw e (turned _ refl)

  bad : good_start b rom ram r ≡ false → one (run_of b rom ram r 1 1) ≡ step_of b rom ram r
  unfolding run_of step_of
  bad e = rw e

  by_board : (t : Bool) → good_start b rom ram r ≡ t → one (run_of b rom ram r 1 1) ≡ step_of b rom ram r
  by_board true e = ap (λ (x : Ran). one x) (started e) ∙ goes (off (both (good_board b (length rom) (length ram)) (good_pc r.pc) e).1)
  by_board false e = bad e

  pub single_is : one (run_of b rom ram r 1 1) ≡ step_of b rom ram r
  single_is = by_board _ refl

  -- a step that was done was one of one, which spent the budget: PC is even after it
  stays_even : good_start b rom ram r ≡ true → (step_of b rom ram r).answer.outcome ≡ Ok tt → eqb (step_of b rom ram r).answer.regs.pc 1 ≡ false
  stays_even g d =
      let h = both (good_board b (length rom) (length ram)) (good_pc r.pc) g in
      let e = step_is r b rom ram h.0 h.1 in
      let k = fetch_keeps r b rom ram (rw e at d) in
      let u = pc_fits true (fetch_of r b rom ram).answer.regs.pc k.pc_good in
      rw e (ne_eqb (fetch_of r b rom ram).answer.regs.pc 1 (λ z. absurd (omega (arith, u.1, z))))

  abbrev Once : Ran → Type 0
  Once x = outcome_of x.answer.why ≡ Ok tt → (x.answer.why ≡ Spent) × (x.answer.steps ≡ 1)

  ends : good_start b rom ram r ≡ true → (o : Result (Unit {0}) Refusal) → (step_of b rom ram r).answer.outcome ≡ o
      → Once (onward o (run_from b rom 1 0 (step_of b rom ram r).mem (step_of b rom ram r).answer.regs (0 + 1) (0 + (step_of b rom ram r).answer.states)) (λ f. ran (told r 0 0 (Halted f)) (step_of b rom ram r).mem))
  unfolding run_from
  ends g (Ok tt) d = rw (stays_even g d) (λ h. (refl, refl))
  ends g (Err f) d = λ h. let z : ◌≡◌ {A = ℕ} 0 1 = cc in absurd (omega arith)

  went : good_start b rom ram r ≡ true → Once (run_from b rom 1 1 ram r 0 0)
  unfolding run_from
  went g = rw (off (both (good_board b (length rom) (length ram)) (good_pc r.pc) g).1) (ends g _ refl)

  stood : good_start b rom ram r ≡ false → Once (run_of b rom ram r 1 1)
  unfolding run_of
  stood g = rw g (λ h. let z : ◌≡◌ {A = ℕ} 0 1 = cc in absurd (omega arith))

  spends : (t : Bool) → good_start b rom ram r ≡ t → Once (run_of b rom ram r 1 1)
  spends true g = rw (started g) (went g)
  spends false g = stood g

  pub one_spent : Once (run_of b rom ram r 1 1)
  one_spent = spends _ refl

-- so its trail is that of the step
pub one_told : (b : Board) (rom ram ram' : List ℕ) (r : Registers) (q : Noted RunAnswer) → ran q.answer ram' ≡ run_of b rom ram r 1 1 → Tells b rom r q
    → outcome_of q.answer.why ≡ Ok tt → q.touched ≡ trail_at rom r
one_told b rom ram ram' r q e t d =
    let (w, s) = (rw (← e) at (one_spent b rom ram r)) d in
    let l = t w (λ z. absurd (omega (arith, s, z))) in
    l.tells ∙ ap (λ (x : Registers). trail_at rom x) (l.only s)
