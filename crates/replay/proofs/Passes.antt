-- Records passed by a run beside them are taken byte by byte alike. Assumes nothing.
use Rattle.std.specs.Prelude.{Result, Ok, Err}
use Prim.Native.Nat.{ℕ, zero, suc, ◌+◌, ◌-◌, ◌*◌, ◌/◌, ◌%◌, ◌^◌, ◌≤◌, ◌<◌}
use mathlib.Core.Path.{◌≡◌, refl, sym, ◌∙◌, ap}
use mathlib.Core.Bool.{Bool, true, false, cond, not}
use mathlib.Core.List.{List, ◌∷◌}
use native.Mathlib.Omega.{arith}
use borrow.Author.Tests.{eqb-true, ltb-true, le-ltb}
use lib.Dec.{eqb, ltb}
use lib.ListN.{length, get_or, drop}
use lib.Seq.{drop-cons}
use Rattle.refusal.specs.declared.Refusal.{Refusal}
use Rattle.refusal.specs.declared.Refusal.TheVariants.{BadBoard}
use Rattle.registers.specs.Condition.{byte_of}
use Rattle.registers.specs.declared.Registers.{Registers}
use Rattle.memory.specs.declared.Board.{Board}
use Rattle.step.specs.Step.{After, good_start, step_of}
use Rattle.step.proofs.Laws.{step_refused, step_states}
use Rattle.run.specs.Run.{Ran, ran, told}
use Rattle.run.specs.MirrorAlong.{strays_of, along_from, start_of, fewer_of, along_of, differs_at}
use Rattle.run.specs.declared.Ending.{Ending}
use Rattle.run.specs.declared.Ending.TheVariants.{AtStop, Spent, Halted}
use Rattle.run.proofs.Strays.{present}
use Rattle.run.proofs.Alone.{counted}
use Rattle.run.proofs.Turns.{both}
use Rattle.replay.specs.declared.Part.{Part}
use Rattle.replay.specs.declared.Stage.{Stage}
use Rattle.replay.specs.declared.Stage.TheVariants.{Version, Records, Told, Closed}
use Rattle.replay.specs.declared.Standing.{Standing}
use Rattle.replay.specs.Replay.{Moment, moment, nothing, part, standing, went, taken, compared, fed}
use Rattle.replay.specs.MirrorReplay.{fresh_of, beyond, passed_of}
use Rattle.replay.proofs.Bytes.{no_true}
use Rattle.replay.proofs.Records.{whole_of, eleven}

pub fits : (n m : ℕ) → fewer_of n m ≤ m
fits n m = by (ltb n m) refl
  where
    by : (t : Bool) → ltb n m ≡ t → cond t n m ≤ m
    by true e = omega (arith, ltb-true n m e)
    by false e = omega arith

-- ---- a record that does not differ

four : (t u v z : Bool) → cond t (cond u (cond v (not z) true) true) true ≡ false → (t ≡ true) × (u ≡ true) × (v ≡ true) × (z ≡ true)
four true true true true e = (refl, refl, refl, refl)
four true true true false e = no_true (sym e)
four true true false z e = no_true (sym e)
four true false v z e = no_true (sym e)
four false u v z e = no_true (sym e)

module _ (b : Board) (rom xs : List ℕ) where
  next : (i j : ℕ) → suc i ≡ j → i < length xs → drop i xs ≡ get_or xs i 0 ∷ drop j xs
  next i j e l = drop-cons xs i 0 l ∙ ap (λ (n : ℕ). get_or xs i 0 ∷ drop n xs) e

  -- the eleven bytes of the record at i
  bytes : (i : ℕ) → i + 11 ≤ length xs
      → drop i xs ≡ get_or xs i 0 ∷ get_or xs (i + 1) 0 ∷ get_or xs (i + 2) 0 ∷ get_or xs (i + 2 + 1) 0 ∷ get_or xs (i + 2 + 2) 0 ∷ get_or xs (i + 2 + 3) 0 ∷ get_or xs (i + 6) 0
      ∷ get_or xs (i + 7) 0 ∷ get_or xs (i + 7 + 1) 0 ∷ get_or xs (i + 7 + 2) 0 ∷ get_or xs (i + 7 + 3) 0 ∷ drop (i + 11) xs
  bytes i l =
      rw (
        next i (i + 1) (omega arith) (omega arith),
        next (i + 1) (i + 2) (omega arith) (omega arith),
        next (i + 2) (i + 2 + 1) (omega arith) (omega arith),
        next (i + 2 + 1) (i + 2 + 2) (omega arith) (omega arith),
        next (i + 2 + 2) (i + 2 + 3) (omega arith) (omega arith),
        next (i + 2 + 3) (i + 6) (omega arith) (omega arith),
        next (i + 6) (i + 7) (omega arith) (omega arith),
        next (i + 7) (i + 7 + 1) (omega arith) (omega arith),
        next (i + 7 + 1) (i + 7 + 2) (omega arith) (omega arith),
        next (i + 7 + 2) (i + 7 + 3) (omega arith) (omega arith),
        next (i + 7 + 3) (i + 11) (omega arith) (omega arith),
      )

  -- s₀ steps were taken before the first of the records
  module _ (s₀ : ℕ) where
    abbrev at : Registers → ℕ → ℕ → List ℕ → Moment
    at r steps states ram = moment (standing r (s₀ + steps) states (Records nothing)) ram

    abbrev rest : Ran → Moment
    rest a = fed b rom (beyond s₀ a) (drop (a.answer.steps * 11) xs)

    -- an answer from which the rest of the records leads where they lead from here; it is at most n steps on
    abbrev Same : ℕ → List ℕ → Registers → ℕ → ℕ → Ran → Type 0
    Same n ram r steps states a = (fed b rom (at r steps states ram) (drop (steps * 11) xs) ≡ rest a) × (a.answer.steps ≤ steps + n)

    here : (n : ℕ) (ram : List ℕ) (r : Registers) (steps states : ℕ) (why : Ending) → Same n ram r steps states (ran (told r steps states why) ram)
    here n ram r steps states why = (refl, omega arith)

    -- one record, and the step after it
    module _ (ram : List ℕ) (r : Registers) (steps states : ℕ) (few : s₀ + steps < 1000000) (long : steps * 11 + 11 ≤ length xs) (small : states < 2 ^ 56)
        (on : strays_of xs steps r.pc r.condition states ≡ false) where
      abbrev i : ℕ
      i = steps * 11

      abbrev did : After
      did = step_of b rom ram r

      abbrev k : Standing
      k = standing r (s₀ + steps) states (Records nothing)

      abbrev p : Part
      p = whole_of (get_or xs i 0) (get_or xs (i + 1) 0) (get_or xs (i + 2) 0) (get_or xs (i + 2 + 1) 0) (get_or xs (i + 2 + 2) 0) (get_or xs (i + 2 + 3) 0) (get_or xs (i + 6) 0) (get_or xs (i + 7) 0) (get_or xs (i + 7 + 1) 0) (get_or xs (i + 7 + 2) 0) (get_or xs (i + 7 + 3) 0)

      agrees : differs_at xs i r.pc r.condition states ≡ false
      agrees = sym (present xs steps r.pc r.condition states (λ e. absurd (omega arith))) ∙ on

      agreed : (eqb p.size 9 ≡ true) × (eqb p.pc r.pc ≡ true) × (eqb p.condition (byte_of r.condition) ≡ true) × (eqb p.states states ≡ true)
      agreed = four _ _ _ _ agrees

      matched : fed b rom (at r steps states ram) (drop i xs) ≡ fed b rom (compared b rom p k ram) (drop (i + 11) xs)
      matched =
          ap (λ (l : List ℕ). fed b rom (at r steps states ram) l) (bytes i long)
          ∙ (eleven b rom ram k few (get_or xs i 0) (get_or xs (i + 1) 0) (get_or xs (i + 2) 0) (get_or xs (i + 2 + 1) 0) (get_or xs (i + 2 + 2) 0) (get_or xs (i + 2 + 3) 0) (get_or xs (i + 6) 0) (get_or xs (i + 7) 0) (get_or xs (i + 7 + 1) 0) (get_or xs (i + 7 + 2) 0) (get_or xs (i + 7 + 3) 0) (drop (i + 11) xs)
          ∙ rw agreed.0)

      stepped : compared b rom p k ram ≡ went did.answer.outcome did k
      unfolding compared taken
      stepped = rw (agreed.1, agreed.2, agreed.3)

      gone : did.answer.outcome ≡ Ok tt → went did.answer.outcome did k ≡ at did.answer.regs (steps + 1) (states + did.answer.states) did.mem
      unfolding went
      gone d =
          let n : (s₀ + steps) % 2 ^ 24 + 1 ≡ s₀ + (steps + 1) = omega arith in
          let m : states % 2 ^ 56 + did.answer.states ≡ states + did.answer.states = omega arith in
          rw (d, n, m)

      through : (n : ℕ) (a : Ran) → did.answer.outcome ≡ Ok tt → Same n did.mem did.answer.regs (steps + 1) (states + did.answer.states) a → Same (suc n) ram r steps states a
      through n a d f =
          let z : i + 11 ≡ (steps + 1) * 11 = omega arith in (
            matched ∙ (ap (λ (m : Moment). fed b rom m (drop (i + 11) xs)) (stepped ∙ gone d)
                ∙ (ap (λ (j : ℕ). fed b rom (at did.answer.regs (steps + 1) (states + did.answer.states) did.mem) (drop j xs)) z ∙ f.0)),
            omega (arith, f.1),
          )

    turn : (n : ℕ) (ram : List ℕ) (r : Registers) (steps states : ℕ) (few : s₀ + steps < 1000000) (long : steps * 11 + 11 ≤ length xs) (small : states < 2 ^ 56)
        → Same n (step_of b rom ram r).mem (step_of b rom ram r).answer.regs (steps + 1) (states + (step_of b rom ram r).answer.states)
        (along_from b rom 1 xs n (step_of b rom ram r).mem (step_of b rom ram r).answer.regs (steps + 1) (states + (step_of b rom ram r).answer.states))
        → (t : Bool) → eqb r.pc 1 ≡ t → (u : Bool) → strays_of xs steps r.pc r.condition states ≡ u → (o : Result (Unit {0}) Refusal) → (step_of b rom ram r).answer.outcome ≡ o
        → Same (suc n) ram r steps states (along_from b rom 1 xs (suc n) ram r steps states)
    unfolding along_from
    turn n ram r steps states few long small f true e u g o d = rw e (here (suc n) ram r steps states AtStop)
    turn n ram r steps states few long small f false e true g o d = rw (e, g) (here (suc n) ram r steps states AtStop)
    turn n ram r steps states few long small f false e false g (Ok tt) d = rw (e, g, d) (through ram r steps states few long small g n (along_from b rom 1 xs n (step_of b rom ram r).mem (step_of b rom ram r).answer.regs (steps + 1) (states + (step_of b rom ram r).answer.states)) d f)
    turn n ram r steps states few long small f false e false g (Err x) d =
        let m : (step_of b rom ram r).mem ≡ ram = ap (λ (a : After). a.mem) (step_refused r b rom ram x d) in
        rw (e, g, d, m) (here (suc n) ram r steps states (Halted x))

    last : (ram : List ℕ) (r : Registers) (steps states : ℕ) (t : Bool)
        → Same zero ram r steps states (cond t (ran (told r steps states AtStop) ram) (ran (told r steps states Spent) ram))
    last ram r steps states true = here zero ram r steps states AtStop
    last ram r steps states false = here zero ram r steps states Spent

    beside : (n : ℕ) (ram : List ℕ) (r : Registers) (steps states : ℕ) → s₀ + steps + n ≤ 1000000 → (steps + n) * 11 ≤ length xs → states + n * 32 < 2 ^ 56
        → Same n ram r steps states (along_from b rom 1 xs n ram r steps states)
    unfolding along_from
    beside zero ram r steps states few long small = last ram r steps states (eqb r.pc 1)
    beside (suc n) ram r steps states few long small =
        let s = step_states r b rom ram in
        turn n ram r steps states (omega arith) (omega arith) (omega arith)
        (beside n (step_of b rom ram r).mem (step_of b rom ram r).answer.regs (steps + 1) (states + (step_of b rom ram r).answer.states) (omega arith) (omega arith) (omega (arith, s)))
        _
        refl
        _
        refl
        _
        refl

    -- the records from here on, of which at most so many are passed
    started : (ram : List ℕ) (r : Registers) (states n : ℕ) → s₀ + n ≤ 1000000 → n * 11 ≤ length xs → states < 4294967296 → (t : Bool) → good_start b rom ram r ≡ t
        → Same n ram r 0 states (start_of b rom ram r 1 n xs states)
    unfolding start_of
    started ram r states n few long small true g = rw (le-ltb 1000000 n (omega arith), g) (beside n ram r 0 states (omega arith) (omega arith) (omega arith))
    started ram r states n few long small false g = rw (le-ltb 1000000 n (omega arith), g) (here n ram r 0 states (Halted BadBoard))

-- ---- nothing is read of the next record

same_part : (a b c d e : ℕ) → a ≡ 0 → b ≡ 0 → c ≡ 0 → d ≡ 0 → e ≡ 0 → Records (part a b c d e) ≡ Records nothing
same_part a b c d e f g h i j = rw (f, g, h, i, j)

fresh_is : (g : Stage) → fresh_of g ≡ true → g ≡ Records nothing
fresh_is Version h = no_true h
fresh_is (Records p) h =
    let w = both _ _ h in
    let x = both _ _ w.0 in
    let y = both _ _ x.0 in
    let z = both _ _ y.0 in
    same_part p.count p.size p.pc p.condition p.states (eqb-true _ _ z.0) (eqb-true _ _ z.1) (eqb-true _ _ y.1) (eqb-true _ _ x.1) (eqb-true _ _ w.1)
fresh_is (Told t) h = no_true h
fresh_is Closed h = no_true h

module _ (b : Board) (rom xs : List ℕ) (k : Standing) (ram : List ℕ) (few : k.steps ≤ 1000000) (small : k.states < 4294967296) where
  abbrev run_beside : Ran
  run_beside = along_of b rom ram k.regs (1000000 - k.steps) xs k.states

  abbrev most : ℕ
  most = fewer_of (length xs / 11) (1000000 - k.steps)

  begun : Same b rom xs k.steps most ram k.regs 0 k.states run_beside
  begun =
      started b rom xs k.steps ram k.regs k.states most (omega (arith, fits (length xs / 11) (1000000 - k.steps))) (counted (length xs) (1000000 - k.steps)) small _ refl

  pub passed_steps : run_beside.answer.steps ≤ 1000000 - k.steps
  passed_steps = omega (arith, begun.1, fits (length xs / 11) (1000000 - k.steps))

  pub passed_bytes : run_beside.answer.steps * 11 ≤ length xs
  passed_bytes = omega (arith, begun.1, counted (length xs) (1000000 - k.steps))

  pub passes : fresh_of k.stage ≡ true → fed b rom (moment k ram) xs ≡ fed b rom (passed_of b rom k ram xs) (drop (run_beside.answer.steps * 11) xs)
  passes fresh =
      let z : k.steps + 0 ≡ k.steps = omega arith in
      ap (λ (g : Stage). fed b rom (moment (standing k.regs k.steps k.states g) ram) xs) (fresh_is k.stage fresh)
      ∙ (ap (λ (n : ℕ). fed b rom (moment (standing k.regs n k.states (Records nothing)) ram) xs) (sym z) ∙ begun.0)
