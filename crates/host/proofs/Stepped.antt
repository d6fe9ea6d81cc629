-- A refused step leaves working memory, so that what the code leaves is what `Steps` says; and what `watch` promises of its list, told in numbers.
use Rattle.std.specs.Prelude.{Result, Ok, Err}
use mathlib.Core.Path.{◌≡◌, refl, sym, ap, ◌∙◌}
use mathlib.Core.Bool.{Bool, true, false}
use mathlib.Core.List.{List, [], ◌∷◌}
use Prim.Native.Nat.{ℕ, ◌+◌, ◌≤◌}
use native.Mathlib.Omega.{arith}
use lib.Dec.{eqb}
use lib.ListN.{length, get_or}
use Rattle.arith.specs.Widths.{num}
use Rattle.refusal.specs.Refusals.{number_of}
use Rattle.refusal.specs.declared.Refusal.{Refusal}
use Rattle.step.specs.Step.{After, after, step_of}
use Rattle.step.proofs.Laws.{step_refused}
use Rattle.memory.specs.declared.told.Access.{Access}
use Rattle.timing.specs.Made.{sum_of, base_of}
use Rattle.watch.specs.Watch.{list_of, Summed, Spares}
use Rattle.watch.specs.declared.Watched.{Watched}
use Rattle.layout.specs.Board.{board_of}
use Rattle.layout.specs.Lent.{overwrite}
use Rattle.layout.specs.Registers.{registers_of, ten_of}
use Rattle.host.specs.Answers.{Noted, noted, completed, tell}
use Rattle.host.specs.Steps.{left, touched, touched_in, step_answer, step_left, StepSummed, StepSpares}
use Rattle.host.specs.MirrorSteps.{Kept, kept, keeping, step_told, step_lent}
use Rattle.host.proofs.Figured.{numbered}

by_outcome : (a : After) (xs : List Access) (ram regs answer : List ℕ) (o : Result (Unit {0}) Refusal) → ((f : Refusal) → o ≡ Err f → a.mem ≡ ram)
    → left (step_told o a.answer xs regs answer).returned a.mem (step_told o a.answer xs regs answer).regs (step_told o a.answer xs regs answer).answer
    ≡ step_left o a xs ram regs answer
unfolding step_told step_left
by_outcome a xs ram regs answer (Ok tt) h = refl
by_outcome a xs ram regs answer (Err f) h = rw (h f refl)

pub stepped_is : (board rom ram regs answer : List ℕ)
    → step_lent board rom ram regs answer
    ≡ step_left (step_of (board_of board) rom ram (registers_of regs)).answer.outcome (step_of (board_of board) rom ram (registers_of regs))
    (list_of (board_of board) rom ram (registers_of regs)) ram regs answer
unfolding step_lent
stepped_is board rom ram regs answer =
    by_outcome (step_of (board_of board) rom ram (registers_of regs)) (list_of (board_of board) rom ram (registers_of regs)) ram regs answer (step_of (board_of board) rom ram (registers_of regs)).answer.outcome
    (λ f e. ap (λ (a : After). a.mem) (step_refused (registers_of regs) (board_of board) rom ram f e))

-- ---- the accesses, read back from the answer

way_back : (t : Bool) → eqb (num t) 1 ≡ t
way_back true = refl
way_back false = refl

list_back : (s : ℕ) (answer : List ℕ) (xs : List Access) → length xs ≤ 4 → touched_in (overwrite (completed (s ∷ touched xs)) answer) ≡ xs
unfolding overwrite
list_back s answer [] h = refl
list_back s answer (x ∷ []) h = rw (way_back x.write)
list_back s answer (x ∷ y ∷ []) h = rw (way_back x.write, way_back y.write)
list_back s answer (x ∷ y ∷ z ∷ []) h = rw (way_back x.write, way_back y.write, way_back z.write)
list_back s answer (x ∷ y ∷ z ∷ t ∷ []) h = rw (way_back x.write, way_back y.write, way_back z.write, way_back t.write)
list_back s answer (x ∷ y ∷ z ∷ t ∷ u ∷ more) h = absurd (omega arith)

-- ---- the sum, and what was spared

pub not_returned : {n : ℕ} {new : List ℕ} (answer : List ℕ) (f : Refusal) → noted n new ≡ tell (step_answer (Err f) 0 []) answer → n ≡ 0 → ⊥
unfolding step_answer tell
not_returned {n} answer f e z = let x : n ≡ number_of f = ap (λ (m : Noted). m.returned) e in omega (arith, numbered f)

module _ (w : Watched) (regs answer : List ℕ) {n : ℕ} {regs' answer' : List ℕ} (few : length w.list.items ≤ 4) (e : kept n regs' answer' ≡ step_told w.answer.outcome w.answer w.list.items regs answer) where
  done_told : w.answer.outcome ≡ Ok tt → kept n regs' answer' ≡ keeping (overwrite (ten_of w.answer.regs) regs) (tell (step_answer (Ok tt) w.answer.states w.list.items) answer)
  unfolding step_told
  done_told d = e ∙ rw d

  states_told : w.answer.outcome ≡ Ok tt → get_or answer' 3 0 ≡ w.answer.states
  unfolding step_answer tell overwrite
  states_told d = ap (λ (k : Kept). get_or k.answer 3 0) (done_told d)

  list_told : w.answer.outcome ≡ Ok tt → touched_in answer' ≡ w.list.items
  unfolding step_answer tell
  list_told d = ap (λ (k : Kept). touched_in k.answer) (done_told d) ∙ list_back w.answer.states answer w.list.items few

  number_told : (f : Refusal) → w.answer.outcome ≡ Err f → n ≡ number_of f
  unfolding step_told step_answer tell
  number_told f d =
      let h : kept n regs' answer' ≡ keeping regs (tell (step_answer (Err f) 0 []) answer) = e ∙ rw d in
      ap (λ (k : Kept). k.returned) h

  pub step_summed : (board rom : List ℕ) → Summed (board_of board) rom (registers_of regs) w → StepSummed board rom regs n answer'
  step_summed board rom s i m z d = by w.answer.outcome refl
    where
      by : (o : Result (Unit {0}) Refusal) → w.answer.outcome ≡ o → get_or answer' 3 0 ≡ base_of i + sum_of (board_of board).site (touched_in answer')
      by (Ok tt) o = rw (states_told o, list_told o) (s i m d o)
      by (Err f) o = absurd (omega (arith, number_told f o, numbered f, z))

  pub step_spares : (board rom ram ram' : List ℕ) → after w.answer ram' ≡ step_of (board_of board) rom ram (registers_of regs)
      → Spares (board_of board) ram ram' w.list.items → StepSpares board ram ram' answer'
  step_spares board rom ram ram' h s k u = by w.answer.outcome refl
    where
      by : (o : Result (Unit {0}) Refusal) → w.answer.outcome ≡ o → get_or ram' k 0 ≡ get_or ram k 0
      by (Ok tt) o = s k (rw (list_told o) at u)
      by (Err f) o =
          let x = step_refused (registers_of regs) (board_of board) rom ram f (ap (λ (a : After). a.answer.outcome) (sym h) ∙ o) in
          ap (λ (a : After). get_or a.mem k 0) (h ∙ x)
