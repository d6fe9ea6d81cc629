-- The loop of a run: where it ends, and what a turn leaves for the next. Assumes nothing.
use Rattle.std.specs.Prelude.{None, Some}
use Prim.Native.Nat.{ℕ, zero, suc, ◌+◌, ◌-◌, ◌≤◌}
use mathlib.Core.Path.{◌≡◌, ap, ◌∙◌}
use mathlib.Core.Bool.{true, ◌&&◌}
use mathlib.Core.List.{List}
use native.Mathlib.Omega.{arith}
use lib.ListN.{length}
use borrow.Author.Tests.{eq-eqb, ne_eqb}
use Rattle.registers.specs.declared.Registers.{Registers}
use Rattle.memory.specs.Board.{good_board}
use Rattle.memory.specs.declared.Board.{Board}
use Rattle.step.specs.Step.{good_pc}
use Rattle.routine.specs.Routine.{routined, told, routine_from}
use Rattle.routine.specs.MirrorTurn.{Left, left, turn_in}
use Rattle.routine.specs.declared.Ending.{Ending}
use Rattle.routine.specs.declared.Ending.TheVariants.{AtStop, Spent}
use Rattle.routine.specs.declared.Kept.{Kept}
use Rattle.routine.specs.declared.RoutineAnswer.{RoutineAnswer}
use Rattle.routine.specs.declared.Turned.{Turned}
use Rattle.routine.proofs.Addresses.{Carries}
use Rattle.routine.proofs.Turns.{View, goes_on, ends, view}

abbrev pub told_in : Registers → Kept → ℕ → ℕ → Ending → RoutineAnswer
told_in r kept steps states why = record { regs = r; steps = steps; states = states; why = why; kept = kept }

carried_told : (r : Registers) {kept : Kept} {ks : List ℕ} (steps states : ℕ) (why : Ending) → Carries kept ks
    → told r ks steps states why ≡ told_in r kept steps states why
carried_told r steps states why c = rw c.is

module _ (b : Board) (rom : List ℕ) (stop : ℕ) (ram : List ℕ) (r : Registers) (ks : List ℕ) (steps states : ℕ) (kept : Kept) (c : Carries kept ks) where
  at_stop : (n : ℕ) → r.pc ≡ stop → routine_from b rom stop n ram r ks steps states ≡ routined (told r ks steps states AtStop) ram
  unfolding routine_from
  at_stop zero e = rw (eq-eqb _ _ e)
  at_stop (suc n) e = rw (eq-eqb _ _ e)

  pub stops : (n : ℕ) → r.pc ≡ stop → routine_from b rom stop n ram r ks steps states ≡ routined (told_in r kept steps states AtStop) ram
  stops n e = at_stop n e ∙ ap (λ (a : RoutineAnswer). routined a ram) (carried_told r steps states AtStop c)

  none_left : (r.pc ≡ stop → ⊥) → (n : ℕ) → n ≡ zero → routine_from b rom stop n ram r ks steps states ≡ routined (told r ks steps states Spent) ram
  unfolding routine_from
  none_left away n z = rw (z, ne_eqb _ _ away)

  pub spent : (budget : ℕ) → (r.pc ≡ stop → ⊥) → steps ≡ budget
      → routine_from b rom stop (budget - steps) ram r ks steps states ≡ routined (told_in r kept steps states Spent) ram
  spent budget away e =
      none_left away (budget - steps) (omega arith) ∙ ap (λ (a : RoutineAnswer). routined a ram) (carried_told r steps states Spent c)

  -- what a turn leaves for the next
  pub record Again (budget : ℕ) (t : Turned) (m : List ℕ) : Type 0 where
    pub xs : List ℕ
    pub carries : Carries t.kept xs
    pub one : t.steps ≡ 1
    pub length_stays : length m ≡ length ram
    pub still_good : good_board b (length rom) (length m) && good_pc t.regs.pc ≡ true
    pub goes : routine_from b rom stop (budget - steps) ram r ks steps states
        ≡ routine_from b rom stop (budget - (steps + t.steps)) m t.regs xs (steps + t.steps) (states + t.states)

  -- what the last one leaves
  pub record Last (budget : ℕ) (t : Turned) (m : List ℕ) (why : Ending) : Type 0 where
    pub length_kept : length m ≡ length ram
    pub told_as : routine_from b rom stop (budget - steps) ram r ks steps states
        ≡ routined (told_in t.regs t.kept (steps + t.steps) (states + t.states) why) m

  module _ (budget : ℕ) (le : steps ≤ budget) (ne : steps ≡ budget → ⊥) where
    fewer : budget - steps ≡ suc (budget - (steps + 1))
    fewer = omega arith

    few : {x : Left} → View b rom stop (budget - (steps + 1)) ram r ks steps states x → x.turned.steps ≤ 1
    few (goes_on t m xs k s g l q e) = omega arith
    few (ends t m xs why k s g l e) = s

    again : {x : Left} → View b rom stop (budget - (steps + 1)) ram r ks steps states x → x.turned.ends ≡ None → Again budget x.turned x.mem
    again (goes_on t m xs k s g l q e) h = record { xs = xs; carries = k; one = s; length_stays = l; still_good = q; goes = rw (fewer, s) e }
    again (ends t m xs why k s g l e) h = let z : ◌≡◌ {A = ℕ} 0 1 = cc in absurd (omega arith)

    last : {x : Left} (w : Ending) → View b rom stop (budget - (steps + 1)) ram r ks steps states x → x.turned.ends ≡ Some w
        → Last budget x.turned x.mem w
    last w (goes_on t m xs k s g l q e) h = let z : ◌≡◌ {A = ℕ} 0 1 = cc in absurd (omega arith)
    last w (ends t m xs why k s g l e) h =
        let same : why ≡ w = cc in
        record {
          length_kept = l;
          told_as = rw (fewer, ← same) (e ∙ ap (λ (a : RoutineAnswer). routined a m) (carried_told t.regs (steps + t.steps) (states + t.states) why k));
        }

    module _ (good : good_board b (length rom) (length ram) && good_pc r.pc ≡ true) (away : r.pc ≡ stop → ⊥) (t : Turned) (m : List ℕ) (is : left t m ≡ turn_in b rom ram r kept) where
      seen : View b rom stop (budget - (steps + 1)) ram r ks steps states (left t m)
      seen = rw (is, c.is) (view b rom stop (budget - (steps + 1)) ram r ks steps states good away c.most)

      pub few_steps : t.steps ≤ 1
      few_steps = few seen

      pub turn_again : t.ends ≡ None → Again budget t m
      turn_again h = again seen h

      pub turn_last : (w : Ending) → t.ends ≡ Some w → Last budget t m w
      turn_last w h = last w seen h
