-- One turn of the code is one turn of the mode. The board was found right and PC is one that can be; both stay so. Assumes nothing.
use Rattle.std.specs.Prelude.{Option, None, Some, Result, Ok, Err}
use Prim.Native.Nat.{ℕ, suc, ◌+◌, ◌≤◌, ◌<◌}
use mathlib.Core.Path.{◌≡◌, refl, sym, ap, ◌∙◌}
use mathlib.Core.Bool.{Bool, true, false, cond, ◌&&◌}
use mathlib.Core.List.{List, [], ◌∷◌}
use native.Mathlib.Nat.{add-zero}
use native.Mathlib.Omega.{arith}
use lib.Dec.{ltb, eqb}
use lib.ListN.{length, drop}
use borrow.Author.Tests.{eq-eqb, ne_eqb, ltb-true, ltb-false, lt-ltb, le-ltb}
use Rattle.refusal.specs.declared.Refusal.{Refusal}
use Rattle.registers.specs.declared.Registers.{Registers}
use Rattle.memory.specs.Board.{good_board}
use Rattle.memory.specs.declared.Board.{Board}
use Rattle.codes.specs.States.{goes_of}
use Rattle.codes.specs.declared.Goes.{Goes}
use Rattle.codes.specs.declared.Goes.TheVariants.{Onward, Branches, Jumps, CallsNear, Calls, Returns}
use Rattle.codes.specs.declared.Instruction.{Instruction}
use Rattle.flow.specs.Targets.{next_of}
use Rattle.decoder.specs.MirrorDecode.{decode_of}
use Rattle.step.specs.Step.{After, good_pc, step_of}
use Rattle.step.specs.Processor.{Calling}
use Rattle.step.proofs.Laws.{Kept, step_is, step_refused, fetch_keeps}
use Rattle.routine.specs.Routine.{kept_of, routined, told, Turn, on, goes_home, leaves, pushing, returning, turn_by, turn_of, taken, onward, routine_from}
use Rattle.routine.specs.MirrorTurn.{seen_in, seen_at, completes_in, ninth_in, stays, made, pushed, returned_to, followed, turned_by, Left, left, turn_in}
use Rattle.routine.specs.declared.Ending.{Ending}
use Rattle.routine.specs.declared.Ending.TheVariants.{Halted, Returned, Ninth, Elsewhere}
use Rattle.routine.specs.declared.Kept.{Kept as KeptAddresses}
use Rattle.routine.specs.declared.Turned.{Turned}
use Rattle.routine.proofs.Addresses.{Carries, carry, some, last_is, take_off}
use Rattle.routine.proofs.Calls.{done_of, call_done, return_writes_nothing, no_step}

either : (t : Bool) → cond t false false ≡ false
either true = refl
either false = refl

apart : true ≡ false → ⊥
apart e = let z : ◌≡◌ {A = ℕ} 0 1 = cc in omega arith

both : (p q : Bool) → p && q ≡ true → (p ≡ true) × (q ≡ true)
both true true e = (refl, refl)
both true false e = (refl, e)
both false q e = absurd (apart (sym e))

-- no ninth is met by what is no call, and with fewer than eight kept
module _ (count : ℕ) (r : Registers) (b : Board) (rom ram : List ℕ) where
  pub fewer : (g : Goes) → count < 8 → ninth_in g count r b rom ram ≡ false
  unfolding ninth_in
  fewer g l = rw (lt-ltb _ _ l)

  pub full : (g : Goes) → 8 ≤ count → ninth_in g count r b rom ram ≡ completes_in g r b rom ram
  unfolding ninth_in
  full g l = rw (le-ltb _ _ l)

  no_call : (g : Goes) → completes_in g r b rom ram ≡ false → ninth_in g count r b rom ram ≡ false
  unfolding ninth_in
  no_call g e = rw e (either (ltb count 8))

-- a turn that goes on, with a step and what is then kept, or that ends the run
module _ (b : Board) (rom : List ℕ) (stop : ℕ) (n : ℕ) (ram : List ℕ) (r : Registers) (ks : List ℕ) (steps states : ℕ) where
  pub data View : Left → Type 0 where
    goes_on : (t : Turned) (m : List ℕ) (after : List ℕ) → Carries t.kept after → t.steps ≡ 1 → t.ends ≡ None → length m ≡ length ram
        → good_board b (length rom) (length m) && good_pc t.regs.pc ≡ true
        → routine_from b rom stop (suc n) ram r ks steps states ≡ routine_from b rom stop n m t.regs after (steps + 1) (states + t.states) → View (left t m)
    ends : (t : Turned) (m : List ℕ) (after : List ℕ) (why : Ending) → Carries t.kept after → t.steps ≤ 1 → t.ends ≡ Some why
        → length m ≡ length ram
        → routine_from b rom stop (suc n) ram r ks steps states ≡ routined (told t.regs after (steps + t.steps) (states + t.states) why) m
        → View (left t m)

  module _ (good : good_board b (length rom) (length ram) && good_pc r.pc ≡ true) (away : r.pc ≡ stop → ⊥) (most : length ks ≤ 8) where
    abbrev c : Carries (kept_of ks) ks
    c = record { is = refl; most = most }

    abbrev decoded : Result (Instruction × ℕ) Refusal
    decoded = decode_of r.pc (drop r.pc rom)

    abbrev stepped : After
    stepped = step_of b rom ram r

    board_good : good_board b (length rom) (length ram) ≡ true
    board_good = (both (good_board b (length rom) (length ram)) (good_pc r.pc) good).0

    after_it : stepped.answer.outcome ≡ Ok tt → Kept r b rom ram stepped
    after_it o =
        let e = step_is r b rom ram board_good (both (good_board b (length rom) (length ram)) (good_pc r.pc) good).1 in
        rw e (fetch_keeps r b rom ram (rw e at o))

    -- ---- the definition, by the step's outcome and the turn

    refused_from : (f : Refusal) → stepped.answer.outcome ≡ Err f
        → routine_from b rom stop (suc n) ram r ks steps states ≡ routined (told r ks steps states (Halted f)) ram
    unfolding routine_from onward
    refused_from f o = rw (ne_eqb _ _ away, o)

    done_from : stepped.answer.outcome ≡ Ok tt → (t : Turn) → turn_of decoded r.pc ks stepped.answer.regs.pc ≡ t
        → routine_from b rom stop (suc n) ram r ks steps states
        ≡ taken t (λ after. routine_from b rom stop n stepped.mem stepped.answer.regs after (steps + 1) (states + stepped.answer.states))
        (routined (told stepped.answer.regs ks (steps + 1) (states + stepped.answer.states) Returned) stepped.mem)
        (λ why. routined (told r ks steps states why) ram)
    unfolding routine_from onward
    done_from o t e = rw (ne_eqb _ _ away, o, e)

    kept_good : stepped.answer.outcome ≡ Ok tt → good_board b (length rom) (length stepped.mem) && good_pc stepped.answer.regs.pc ≡ true
    kept_good o = rw ((after_it o).length_stays, board_good) (after_it o).pc_good

    -- ---- a step with which it goes on, and one that is not taken

    goes : (after : List ℕ) (kept' : KeptAddresses) → Carries kept' after → stepped.answer.outcome ≡ Ok tt
        → turn_of decoded r.pc ks stepped.answer.regs.pc ≡ on after
        → turn_in b rom ram r (kept_of ks) ≡ left (made stepped.answer kept' None) stepped.mem → View (turn_in b rom ram r (kept_of ks))
    unfolding taken
    goes after kept' k o t e =
        rw e (goes_on (made stepped.answer kept' None) stepped.mem after k refl refl (after_it o).length_stays (kept_good o) (done_from o (on after) t))

    stops : (why : Ending) → routine_from b rom stop (suc n) ram r ks steps states ≡ routined (told r ks steps states why) ram
        → turn_in b rom ram r (kept_of ks) ≡ left (stays r (kept_of ks) why) ram → View (turn_in b rom ram r (kept_of ks))
    stops why f e = rw e (ends (stays r (kept_of ks) why) ram ks why c (omega arith) refl refl (rw (add-zero steps, add-zero states) f))

    not_taken : (why : Ending) → stepped.answer.outcome ≡ Ok tt → turn_of decoded r.pc ks stepped.answer.regs.pc ≡ leaves why
        → turn_in b rom ram r (kept_of ks) ≡ left (stays r (kept_of ks) why) ram → View (turn_in b rom ram r (kept_of ks))
    unfolding taken
    not_taken why o t e = stops why (done_from o (leaves why) t) e

    -- ---- a completed step, by where its instruction lets PC go

    module _ (i : Instruction) (l : ℕ) (d : decoded ≡ Ok (i, l)) (o : stepped.answer.outcome ≡ Ok tt) where
      turned : (g : Goes) → goes_of i ≡ g → turn_of decoded r.pc ks stepped.answer.regs.pc ≡ turn_by g (next_of r.pc l) ks stepped.answer.regs.pc
      unfolding turn_of
      turned g h = rw (d, h)

      coded : (g : Goes) → goes_of i ≡ g → ninth_in g (length ks) r b rom ram ≡ false
          → turn_in b rom ram r (kept_of ks) ≡ left (followed g (next_of r.pc l) r (kept_of ks) stepped.answer) stepped.mem
      unfolding turn_in seen_at seen_in turned_by
      coded g h e = rw (d, h, e, o)

      coded_ninth : (g : Goes) → goes_of i ≡ g → ninth_in g (length ks) r b rom ram ≡ true → turn_in b rom ram r (kept_of ks) ≡ left (stays r (kept_of ks) Ninth) ram
      unfolding turn_in seen_at seen_in
      coded_ninth g h e = rw (d, h, e)

      completes : (g : Goes) → goes_of i ≡ g → Calling g → completes_in g r b rom ram ≡ true
      completes g h q =
          let q' : Calling (goes_of i) = rw h q in
          let e : done_of stepped.answer.outcome ≡ completes_in (goes_of i) r b rom ram = call_done r b rom ram good i l d q' in
          sym (rw (h, o) at e)

      calls : (g : Goes) → goes_of i ≡ g → Calling g → turn_by g (next_of r.pc l) ks stepped.answer.regs.pc ≡ pushing (next_of r.pc l) ks
          → followed g (next_of r.pc l) r (kept_of ks) stepped.answer ≡ pushed (next_of r.pc l) (kept_of ks) stepped.answer
          → (t : Bool) → ltb (length ks) 8 ≡ t → View (turn_in b rom ram r (kept_of ks))
      calls g h q u v true t =
          let few : length ks < 8 = ltb-true _ _ t in
          goes (next_of r.pc l ∷ ks) _ (carry (next_of r.pc l) ks few) o (turned g h ∙ (u ∙ rw t))
          (coded g h (fewer (length ks) r b rom ram g few) ∙ ap (λ (x : Turned). left x stepped.mem) v)
      calls g h q u v false t =
          let many : 8 ≤ length ks = ltb-false _ _ t in
          not_taken Ninth o (turned g h ∙ (u ∙ rw t))
          (coded_ninth g h (full (length ks) r b rom ram g many ∙ completes g h q))

      module _ (h : goes_of i ≡ Returns) where
        coded_back : turn_in b rom ram r (kept_of ks) ≡ left (returned_to r (kept_of ks) stepped.answer) stepped.mem
        unfolding followed completes_in
        coded_back = coded Returns h (no_call (length ks) r b rom ram Returns refl)

        turned_back : turn_of decoded r.pc ks stepped.answer.regs.pc ≡ returning stepped.answer.regs.pc ks
        unfolding turn_by
        turned_back = turned Returns h

        come : (k : ℕ) (rest : List ℕ) → ks ≡ k ∷ rest → (t : Bool) → eqb stepped.answer.regs.pc k ≡ t → View (turn_in b rom ram r (kept_of ks))
        unfolding returned_to
        come k rest e true t =
            let m : length (k ∷ rest) ≤ 8 = rw e at most in
            goes rest _ (take_off k rest m) o (turned_back ∙ rw (e, t)) (coded_back ∙ rw (e, some k rest, last_is k rest m, t))
        come k rest e false t =
            let m : length (k ∷ rest) ≤ 8 = rw e at most in
            not_taken Elsewhere o (turned_back ∙ rw (e, t))
            (coded_back ∙ rw (e, some k rest, last_is k rest m, t, return_writes_nothing r b rom ram good i l d h))

        go_home : ks ≡ [] → View (turn_in b rom ram r (kept_of ks))
        unfolding returned_to taken
        go_home e =
            let f : left (returned_to r (kept_of ks) stepped.answer) stepped.mem ≡ left (made stepped.answer (kept_of ks) (Some Returned)) stepped.mem = rw e in
            rw (coded_back ∙ f)
            (ends (made stepped.answer (kept_of ks) (Some Returned)) stepped.mem ks Returned c (omega arith) refl (after_it o).length_stays
            (done_from o goes_home (turned_back ∙ rw e)))

        comes : (xs : List ℕ) → ks ≡ xs → View (turn_in b rom ram r (kept_of ks))
        comes [] e = go_home e
        comes (k ∷ rest) e = come k rest e _ refl

      by_goes : (g : Goes) → goes_of i ≡ g → View (turn_in b rom ram r (kept_of ks))
      unfolding turn_by followed completes_in
      by_goes Onward h = goes ks _ c o (turned Onward h) (coded Onward h (no_call (length ks) r b rom ram Onward refl))
      by_goes (Branches x y) h = goes ks _ c o (turned (Branches x y) h) (coded (Branches x y) h (no_call (length ks) r b rom ram (Branches x y) refl))
      by_goes (Jumps x) h = goes ks _ c o (turned (Jumps x) h) (coded (Jumps x) h (no_call (length ks) r b rom ram (Jumps x) refl))
      by_goes (CallsNear x) h = calls (CallsNear x) h tt refl refl _ refl
      by_goes (Calls x) h = calls (Calls x) h tt refl refl _ refl
      by_goes Returns h = comes h ks refl

    -- ---- a refused step

    refuses : (f : Refusal) → stepped.answer.outcome ≡ Err f → (t : Bool) → ninth_in (seen_at rom r.pc).goes (length ks) r b rom ram ≡ t
        → (t ≡ true → ⊥) → View (turn_in b rom ram r (kept_of ks))
    unfolding turn_in turned_by
    refuses f o true e isnt = absurd (isnt refl)
    refuses f o false e isnt = stops (Halted f) (refused_from f o) (rw (e, o, ap (λ (x : After). x.mem) (step_refused r b rom ram f o)))

    -- what would complete is not refused
    module _ (f : Refusal) (o : stepped.answer.outcome ≡ Err f) where
      refused_call : (i : Instruction) (l : ℕ) → decoded ≡ Ok (i, l) → (g : Goes) → goes_of i ≡ g → Calling g → completes_in g r b rom ram ≡ false
      refused_call i l d g h q =
          let q' : Calling (goes_of i) = rw h q in
          let e : done_of stepped.answer.outcome ≡ completes_in (goes_of i) r b rom ram = call_done r b rom ram good i l d q' in
          sym (rw (h, o) at e)

      incomplete : (i : Instruction) (l : ℕ) → decoded ≡ Ok (i, l) → (g : Goes) → goes_of i ≡ g → completes_in g r b rom ram ≡ false
      unfolding completes_in
      incomplete i l d Onward h = refl
      incomplete i l d (Branches x y) h = refl
      incomplete i l d (Jumps x) h = refl
      incomplete i l d (CallsNear x) h = refused_call i l d (CallsNear x) h tt
      incomplete i l d (Calls x) h = refused_call i l d (Calls x) h tt
      incomplete i l d Returns h = refl

      never_ninth : (x : Result (Instruction × ℕ) Refusal) → decoded ≡ x → ninth_in (seen_at rom r.pc).goes (length ks) r b rom ram ≡ true → ⊥
      unfolding seen_at seen_in completes_in
      never_ninth (Err g) d e = apart (sym (rw d at e) ∙ no_call (length ks) r b rom ram Onward refl)
      never_ninth (Ok (i, l)) d e = apart (sym (rw d at e) ∙ no_call (length ks) r b rom ram (goes_of i) (incomplete i l d (goes_of i) refl))

    by_decoded : stepped.answer.outcome ≡ Ok tt → (x : Result (Instruction × ℕ) Refusal) → decoded ≡ x → View (turn_in b rom ram r (kept_of ks))
    by_decoded o (Ok (i, l)) d = by_goes i l d o (goes_of i) refl
    by_decoded o (Err f) d = absurd (apart (ap done_of (sym o) ∙ no_step r b rom ram good f d _ refl))

    by_outcome : (x : Result (Unit {0}) Refusal) → stepped.answer.outcome ≡ x → View (turn_in b rom ram r (kept_of ks))
    by_outcome (Ok tt) o = by_decoded o _ refl
    by_outcome (Err f) o = refuses f o _ refl (never_ninth f o _ refl)

    pub view : View (turn_in b rom ram r (kept_of ks))
    view = by_outcome _ refl
