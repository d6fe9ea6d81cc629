-- A run of the mode on a right board is the repeated step of `keeping`. Assumes nothing.
use Rattle.std.specs.Prelude.{Result, Ok, Err}
use Prim.Native.Nat.{ℕ, zero, suc, ◌+◌, ◌≤◌}
use mathlib.Core.Path.{◌≡◌, refl, sym, ap, ◌∙◌}
use mathlib.Core.Bool.{Bool, true, false, cond, ◌&&◌}
use mathlib.Core.List.{List, [], ◌∷◌}
use native.Mathlib.Nat.{add_assoc}
use native.Mathlib.Omega.{arith}
use lib.Dec.{ltb, eqb}
use lib.ListN.{length, drop}
use borrow.Author.Tests.{eqb-true, eqb-false, ltb-true, ltb-false, le-ltb}
use Rattle.refusal.specs.declared.Refusal.{Refusal}
use Rattle.registers.specs.declared.Registers.{Registers}
use Rattle.memory.specs.Board.{good_board}
use Rattle.memory.specs.declared.Board.{Board}
use Rattle.codes.specs.States.{goes_of}
use Rattle.codes.specs.declared.Goes.{Goes}
use Rattle.codes.specs.declared.Goes.TheVariants.{Onward, Branches, Jumps, CallsNear, Calls, Returns}
use Rattle.codes.specs.declared.Instruction.{Instruction}
use Rattle.flow.specs.Targets.{next_of}
use Rattle.decoder.specs.MirrorDecode.{decode_of}
use Rattle.machine.specs.Machine.{Machine, none, more}
use Rattle.machine.specs.Keeping.{Keeps, keeps, Moves, went, called, came, home, at_ninth, at_elsewhere, Home, last, keeping}
use Rattle.step.specs.Step.{After, after, answered, good_pc, step_of}
use Rattle.step.specs.Processor.{State, Calling, processor}
use Rattle.step.proofs.Laws.{step_refused}
use Rattle.run.specs.Repeated.{state}
use Rattle.routine.specs.Routine.{Routined, routined, told, kept_of, Turn, on, leaves, pushing, returning, turn_by, turn_of, taken, onward, routine_from, routine_of}
use Rattle.routine.specs.Repeated.{Before, RunsTo, stopped, spent, halted, ninth_met, elsewhere_met, returned, Repeated}
use Rattle.routine.specs.declared.Ending.{Ending}
use Rattle.routine.specs.declared.Ending.TheVariants.{AtStop, Spent, Halted, Returned, Ninth, Elsewhere}

abbrev goes_in : Result (Instruction × ℕ) Refusal → Goes
goes_in (Ok (i, l)) = goes_of i
goes_in (Err f) = Onward

module _ (b : Board) (rom : List ℕ) (stop : ℕ) where
  abbrev P : Machine
  P = processor b rom

  abbrev M : Machine
  M = keeping P

  -- from r and ram with ks kept and `left` steps of the budget left, after `steps` steps with `states` states
  record From (left : ℕ) (ram : List ℕ) (r : Registers) (ks : List ℕ) (steps states : ℕ) (a : Routined) : Type 0 where
    xs : List ℕ
    in_order : a.answer.kept ≡ kept_of xs
    c : ℕ
    m : ℕ
    count : a.answer.steps ≡ steps + c
    sum : a.answer.states ≡ states + m
    led : RunsTo M stop left (keeps (state r ram) ks) c m (keeps (state a.answer.regs a.mem) xs) a.answer.why

  -- a step before a run
  onwards : {s t u : M.State} {n c m left : ℕ} {why : Ending} → Before M stop s → M.Does s t n → RunsTo M stop left t c m u why
      → RunsTo M stop (suc left) s (c + 1) (n + m) u why
  onwards p d (stopped st e) = stopped (more p d st) e
  onwards p d (spent st w e) = spent (more p d st) w (omega arith)
  onwards p d (halted st w l f) = halted (more p d st) w (omega arith) f
  onwards p d (ninth_met st w l e) = ninth_met (more p d st) w (omega arith) e
  onwards p d (elsewhere_met st w l e) = elsewhere_met (more p d st) w (omega arith) e
  onwards p d (returned st w l a e) = rw (← add_assoc) (returned (more p d st) w (omega arith) a e)

  home_empty : {x : Keeps P} → Home P x → x.kept ≡ []
  home_empty (last a) = refl

  home_returns : {x : Keeps P} → Home P x → P.AtReturn x.state
  home_returns (last a) = a

  at_once : (left : ℕ) (ram : List ℕ) (r : Registers) (ks : List ℕ) (steps states : ℕ) (why : Ending)
      → RunsTo M stop left (keeps (state r ram) ks) 0 0 (keeps (state r ram) ks) why → From left ram r ks steps states (routined (told r ks steps states why) ram)
  at_once left ram r ks steps states why e =
      record { xs = ks; in_order = refl; c = 0; m = 0; count = omega arith; sum = omega arith; led = e }

  module _ (n : ℕ) (ram : List ℕ) (r : Registers) (steps states : ℕ) (away : r.pc ≡ stop → ⊥) where
    abbrev S : After
    S = step_of b rom ram r

    abbrev here : State
    here = state r ram

    abbrev there : State
    there = state S.answer.regs S.mem

    one_more : (ks xs : List ℕ) (a : Routined) → (Home P (keeps here ks) → ⊥) → Moves P (keeps here ks) (keeps there xs) S.answer.states
        → From n S.mem S.answer.regs xs (steps + 1) (states + S.answer.states) a → From (suc n) ram r ks steps states a
    one_more ks xs a no-home moves f =
        record {
          xs = f.xs;
          in_order = f.in_order;
          c = f.c + 1;
          m = S.answer.states + f.m;
          count = omega (arith, f.count);
          sum = omega (arith, f.sum);
          led = onwards (away, no-home) moves f.led;
        }

    -- what the mode makes of the turn, where the runs after it are as they are to be
    abbrev after_turn : List ℕ → Turn → Routined
    after_turn ks t =
        taken t (λ xs. routine_from b rom stop n S.mem S.answer.regs xs (steps + 1) (states + S.answer.states))
        (routined (told S.answer.regs ks (steps + 1) (states + S.answer.states) Returned) S.mem)
        (λ why. routined (told r ks steps states why) ram)

    module _ (o : S.answer.outcome ≡ Ok tt)
        (rest : (xs : List ℕ) → From n S.mem S.answer.regs xs (steps + 1) (states + S.answer.states) (routine_from b rom stop n S.mem S.answer.regs xs (steps + 1) (states + S.answer.states))) where
      does : P.Does here there S.answer.states
      does = ap (λ (x : Result (Unit {0}) Refusal). after (answered S.answer.regs S.answer.states x) S.mem) o

      plain : (ks : List ℕ) → ((k : ℕ) → P.Pushes here k → ⊥) → (P.AtReturn here → ⊥) → From (suc n) ram r ks steps states (after_turn ks (on ks))
      unfolding taken
      plain ks no_push no_return = one_more ks ks _ (λ h. no_return (home_returns h)) (went no_push no_return does) (rest ks)

      module _ (i : Instruction) (l : ℕ) (d : decode_of r.pc (drop r.pc rom) ≡ Ok (i, l)) where
        same : (i' : Instruction) (l' : ℕ) → decode_of r.pc (drop r.pc rom) ≡ Ok (i', l') → goes_of i' ≡ goes_of i
        same i' l' e = ap goes_in (sym e ∙ d)

        no_push : (g : Goes) → goes_of i ≡ g → (Calling g → ⊥) → (k : ℕ) → P.Pushes here k → ⊥
        no_push g h isnt k (i', l', e, q, z) = isnt (rw (same i' l' e ∙ h) at q)

        no_return : (g : Goes) → goes_of i ≡ g → (g ≡ Returns → ⊥) → P.AtReturn here → ⊥
        no_return g h isnt (i', l', e, q) = isnt (sym h ∙ (sym (same i' l' e) ∙ q))

        calls : (g : Goes) → goes_of i ≡ g → Calling g → (g ≡ Returns → ⊥) → (ks : List ℕ) (t : Bool) → ltb (length ks) 8 ≡ t
            → From (suc n) ram r ks steps states (after_turn ks (pushing (next_of r.pc l) ks))
        unfolding taken
        calls g h q isnt ks true t =
            let q' : Calling (goes_of i) = rw h q in
            rw t (one_more ks (next_of r.pc l ∷ ks) _ (λ x. no_return g h isnt (home_returns x)) (called (i, l, d, q', refl) (ltb-true _ _ t) does) (rest (next_of r.pc l ∷ ks)))
        calls g h q isnt ks false t =
            let q' : Calling (goes_of i) = rw h q in
            rw t (at_once (suc n) ram r ks steps states Ninth (ninth_met none away (omega arith) (at_ninth (i, l, d, q', refl) (ltb-false _ _ t) does)))

        comes_to : (k : ℕ) (ks : List ℕ) (t : Bool) → goes_of i ≡ Returns → eqb S.answer.regs.pc k ≡ t
            → From (suc n) ram r (k ∷ ks) steps states (after_turn (k ∷ ks) (cond t (on ks) (leaves Elsewhere)))
        unfolding taken
        comes_to k ks true h t =
            one_more (k ∷ ks) ks _ (λ x. let e = home_empty x in let z : ◌≡◌ {A = ℕ} 0 1 = cc in omega arith) (came (i, l, d, h) does (eqb-true _ _ t)) (rest ks)
        comes_to k ks false h t =
            at_once (suc n) ram r (k ∷ ks) steps states Elsewhere (elsewhere_met none away (omega arith) (at_elsewhere (i, l, d, h) does (eqb-false _ _ t)))

        comes : goes_of i ≡ Returns → (ks : List ℕ) → From (suc n) ram r ks steps states (after_turn ks (returning S.answer.regs.pc ks))
        unfolding taken
        comes h [] =
            record {
              xs = [];
              in_order = refl;
              c = 0 + 1;
              m = 0 + S.answer.states;
              count = omega arith;
              sum = omega arith;
              led = returned none away (omega arith) (last (i, l, d, h)) (home (i, l, d, h) does);
            }
        comes h (k ∷ ks) = comes_to k ks _ h refl

        by_goes : (g : Goes) → goes_of i ≡ g → (ks : List ℕ) → From (suc n) ram r ks steps states (after_turn ks (turn_by g (next_of r.pc l) ks S.answer.regs.pc))
        unfolding turn_by
        by_goes Onward h ks = plain ks (no_push Onward h (λ q. q)) (no_return Onward h (λ e. let z : ◌≡◌ {A = ℕ} 0 1 = cc in omega arith))
        by_goes (Branches x y) h ks = plain ks (no_push (Branches x y) h (λ q. q)) (no_return (Branches x y) h (λ e. let z : ◌≡◌ {A = ℕ} 0 1 = cc in omega arith))
        by_goes (Jumps x) h ks = plain ks (no_push (Jumps x) h (λ q. q)) (no_return (Jumps x) h (λ e. let z : ◌≡◌ {A = ℕ} 0 1 = cc in omega arith))
        by_goes (CallsNear x) h ks = calls (CallsNear x) h tt (λ e. let z : ◌≡◌ {A = ℕ} 0 1 = cc in omega arith) ks _ refl
        by_goes (Calls x) h ks = calls (Calls x) h tt (λ e. let z : ◌≡◌ {A = ℕ} 0 1 = cc in omega arith) ks _ refl
        by_goes Returns h ks = comes h ks

      nothing : (f : Refusal) → decode_of r.pc (drop r.pc rom) ≡ Err f → (i : Instruction) (l : ℕ) → decode_of r.pc (drop r.pc rom) ≡ Ok (i, l) → ⊥
      nothing f d i l e = let z : ◌≡◌ {A = ℕ} 0 1 = cc in omega arith

      by_decoded : (ks : List ℕ) (x : Result (Instruction × ℕ) Refusal) → decode_of r.pc (drop r.pc rom) ≡ x → From (suc n) ram r ks steps states (after_turn ks (turn_of x r.pc ks S.answer.regs.pc))
      unfolding turn_of
      by_decoded ks (Ok (i, l)) d = by_goes i l d (goes_of i) refl ks
      by_decoded ks (Err f) d = plain ks (λ k (i, l, e, q, z). nothing f d i l e) (λ (i, l, e, q). nothing f d i l e)

    turn : (ks : List ℕ)
        → ((xs : List ℕ) → From n S.mem S.answer.regs xs (steps + 1) (states + S.answer.states) (routine_from b rom stop n S.mem S.answer.regs xs (steps + 1) (states + S.answer.states)))
        → eqb r.pc stop ≡ false → (x : Result (Unit {0}) Refusal) → S.answer.outcome ≡ x → From (suc n) ram r ks steps states (routine_from b rom stop (suc n) ram r ks steps states)
    unfolding routine_from onward
    turn ks rest h (Ok tt) o = rw (h, o) (by_decoded o rest ks _ refl)
    turn ks rest h (Err f) o = rw (h, o) (at_once (suc n) ram r ks steps states (Halted f) (halted none away (omega arith) (step_refused r b rom ram f o)))

  start : (left : ℕ) (ram : List ℕ) (r : Registers) (ks : List ℕ) (steps states : ℕ) → eqb r.pc stop ≡ true
      → From left ram r ks steps states (routine_from b rom stop left ram r ks steps states)
  unfolding routine_from
  start zero ram r ks steps states h = rw h (at_once zero ram r ks steps states AtStop (stopped none (eqb-true _ _ h)))
  start (suc n) ram r ks steps states h = rw h (at_once (suc n) ram r ks steps states AtStop (stopped none (eqb-true _ _ h)))

  end : (ram : List ℕ) (r : Registers) (ks : List ℕ) (steps states : ℕ) (t : Bool) → eqb r.pc stop ≡ t
      → From zero ram r ks steps states (routine_from b rom stop zero ram r ks steps states)
  unfolding routine_from
  end ram r ks steps states true h = start zero ram r ks steps states h
  end ram r ks steps states false h = rw h (at_once zero ram r ks steps states Spent (spent none (eqb-false _ _ h) refl))

  middle : (n : ℕ) (ram : List ℕ) (r : Registers) (ks : List ℕ) (steps states : ℕ)
      → ((m : List ℕ) (q : Registers) (xs : List ℕ) (c s : ℕ) → From n m q xs c s (routine_from b rom stop n m q xs c s)) → (t : Bool) → eqb r.pc stop ≡ t
      → From (suc n) ram r ks steps states (routine_from b rom stop (suc n) ram r ks steps states)
  middle n ram r ks steps states rest true h = start (suc n) ram r ks steps states h
  middle n ram r ks steps states rest false h = turn n ram r steps states (eqb-false _ _ h) ks (λ xs. rest _ _ xs _ _) h _ refl

  from : (left : ℕ) (ram : List ℕ) (r : Registers) (ks : List ℕ) (steps states : ℕ)
      → From left ram r ks steps states (routine_from b rom stop left ram r ks steps states)
  from zero ram r ks steps states = end ram r ks steps states _ refl
  from (suc n) ram r ks steps states = middle n ram r ks steps states (from n) _ refl

  -- on a right board, from a PC that can be, within the allowed budget
  pub kept_repeated : (ram : List ℕ) (r : Registers) (budget : ℕ) → good_board b (length rom) (length ram) && good_pc r.pc ≡ true → budget ≤ 1000000
      → Repeated b rom ram r stop budget (routine_of b rom ram r stop budget)
  unfolding routine_of
  kept_repeated ram r budget good small = rw (le-ltb 1000000 budget small, good) (whole (from budget ram r [] 0 0))
    where
      whole : {a : Routined} → From budget ram r [] 0 0 a → Repeated b rom ram r stop budget a
      whole {a} f =
          let x : f.c ≡ a.answer.steps = omega (arith, f.count) in
          let y : f.m ≡ a.answer.states = omega (arith, f.sum) in
          record { ks = f.xs; in_order = f.in_order; led = rw (x, y) at f.led }
