-- One turn of a run. The board was found right and PC is one that can be; both stay so. Assumes nothing.
use Rattle.std.specs.Prelude.{Result, Ok, Err}
use Prim.Native.Nat.{ℕ, zero, suc, ◌+◌, ◌-◌, ◌/◌, ◌%◌, ◌≤◌, ◌<◌}
use mathlib.Core.Path.{◌≡◌, refl, sym, ◌∙◌, ap, subst}
use mathlib.Core.Bool.{Bool, true, false, ◌&&◌}
use mathlib.Core.List.{List}
use borrow.Author.Tests.{eq-eqb, ne_eqb, eqb-true, ltb-true, lt-ltb, le-ltb}
use native.Mathlib.Omega.{arith}
use lib.Dec.{eqb, ltb}
use lib.ListN.{length}
use Rattle.codes.specs.declared.Instruction.{Instruction}
use Rattle.refusal.specs.declared.Refusal.{Refusal}
use Rattle.refusal.specs.declared.Refusal.TheVariants.{FetchOutside, UnknownCode}
use Rattle.moves.specs.Made.{trail_of}
use Rattle.registers.specs.declared.Condition.{Condition}
use Rattle.registers.specs.declared.Registers.{Registers}
use Rattle.registers.specs.Lent.{lent}
use Rattle.registers.specs.Parts.{pc_of}
use Rattle.memory.specs.Board.{good_board}
use Rattle.memory.specs.declared.Board.{Board}
use Rattle.entry.specs.Entry.{by_kind, meaning_of}
use Rattle.step.specs.Step.{After, after, answered, stays, act_of, good_pc, good_start, fetch_of, step_of}
use Rattle.step.specs.declared.StepAnswer.{StepAnswer}
use Rattle.step.proofs.Laws.{Kept, fetch_keeps, fetch_refused}
use Rattle.turns.specs.declared.Turn.{Turn}
use Rattle.turns.specs.MirrorTurn.{told_as, told_in, touched_by}
use Rattle.turns.proofs.Laws.{told_done, told_refused}
use Rattle.run.specs.MirrorKept.{Means}
use Rattle.run.specs.Run.{ran, told}
use Rattle.run.specs.MirrorAlong.{strays_of, along_from}
use Rattle.run.specs.MirrorTrail.{trail_at}
use Rattle.run.specs.declared.Ending.TheVariants.{AtStop, Spent, Halted}

-- ---- a kind that is not there

module _ (p k v x : ℕ) where
  pub no_kind : (k ≡ 0 → ⊥) → (k ≡ 1 → ⊥) → (k ≡ 2 → ⊥) → (k ≡ 3 → ⊥) → (k ≡ 4 → ⊥) → (k ≡ 5 → ⊥) → (k ≡ 6 → ⊥) → (k ≡ 7 → ⊥) → (k ≡ 8 → ⊥) → (k ≡ 9 → ⊥)
      → (k ≡ 10 → ⊥) → (k ≡ 11 → ⊥) → (k ≡ 12 → ⊥) → (k ≡ 13 → ⊥) → (k ≡ 14 → ⊥) → (k ≡ 15 → ⊥) → (k ≡ 16 → ⊥) → (k ≡ 17 → ⊥) → (k ≡ 18 → ⊥) → (k ≡ 19 → ⊥) → by_kind p k v x ≡ Err (UnknownCode p)
  unfolding by_kind
  no_kind n0 n1 n2 n3 n4 n5 n6 n7 n8 n9 n10 n11 n12 n13 n14 n15 n16 n17 n18 n19 =
      rw (
        ne_eqb k 0 n0,
        ne_eqb k 1 n1,
        ne_eqb k 2 n2,
        ne_eqb k 3 n3,
        ne_eqb k 4 n4,
        ne_eqb k 5 n5,
        ne_eqb k 6 n6,
        ne_eqb k 7 n7,
        ne_eqb k 8 n8,
        ne_eqb k 9 n9,
        ne_eqb k 10 n10,
        ne_eqb k 11 n11,
        ne_eqb k 12 n12,
        ne_eqb k 13 n13,
        ne_eqb k 14 n14,
        ne_eqb k 15 n15,
        ne_eqb k 16 n16,
        ne_eqb k 17 n17,
        ne_eqb k 18 n18,
        ne_eqb k 19 n19,
      )

-- ---- the entry at PC

module _ (r : Registers) (b : Board) (rom ram : List ℕ) where
  pub outside : length rom ≤ r.pc → after (stays r (FetchOutside r.pc)) ram ≡ fetch_of r b rom ram
  unfolding fetch_of
  outside l = rw (le-ltb _ _ l)

  module _ (e : ℕ) (l : r.pc < length rom) (m : Means rom r.pc e) where
    fetched : act_of (meaning_of r.pc e) r b rom ram ≡ fetch_of r b rom ram
    unfolding fetch_of
    fetched = rw (lt-ltb _ _ l, m)

    -- what its kind's group left is what the step leaves
    pub by_kind_lem : (k : ℕ) → e / 16 % 32 ≡ k → (a : After) → a ≡ act_of (by_kind r.pc k (e % 16) (e / 512)) r b rom ram → a ≡ fetch_of r b rom ram
    unfolding meaning_of
    by_kind_lem k h a w = let g : act_of (by_kind r.pc (e / 16 % 32) (e % 16) (e / 512)) r b rom ram ≡ fetch_of r b rom ram = fetched in w ∙ rw h at g

    -- and what it noted is what the instruction at PC touches
    pub by_trail : (k : ℕ) → e / 16 % 32 ≡ k → (t : ℕ) → t ≡ trail_of r 0 (touched_by (by_kind r.pc k (e % 16) (e / 512))) → t ≡ trail_at rom r
    unfolding meaning_of
    by_trail k h t w =
        let g : trail_of r 0 (touched_by (by_kind r.pc (e / 16 % 32) (e % 16) (e / 512))) ≡ trail_at rom r = ap (λ (d : Result (Instruction × ℕ) Refusal). trail_of r 0 (touched_by d)) m in
        w ∙ rw h at g

-- ---- what the turn left: er and m after it

module _ (er₀ er : List ℕ) (pc : ℕ) (f : Condition) (t : Turn) (b : Board) (rom ram m : List ℕ) (e : after (told_in er pc t) m ≡ fetch_of (lent er₀ pc f) b rom ram) where
  pub turn_done : t.outcome ≡ Ok tt → after (answered (lent er (pc_of t.pc) t.condition) t.states (Ok tt)) m ≡ fetch_of (lent er₀ pc f) b rom ram
  turn_done d = ap (λ (a : StepAnswer). after a m) (sym (told_done er pc t d)) ∙ e

  -- a refused turn has written nothing
  module _ (x : Refusal) (d : t.outcome ≡ Err x) where
    outcome_is : (told_in er pc t).outcome ≡ Err x
    unfolding told_in told_as
    outcome_is = rw d

    step_stays : fetch_of (lent er₀ pc f) b rom ram ≡ after (stays (lent er₀ pc f) x) ram
    step_stays = fetch_refused (lent er₀ pc f) b rom ram x (ap (λ (a : After). a.answer.outcome) (sym e) ∙ outcome_is)

    pub same_registers : er ≡ er₀
    same_registers = told_refused er m ram pc (lent er₀ pc f) t x d (e ∙ step_stays)

    pub same_memory : m ≡ ram
    same_memory = ap (λ (a : After). a.mem) (e ∙ step_stays)

    pub turn_refused : after (stays (lent er₀ pc f) x) m ≡ fetch_of (lent er₀ pc f) b rom ram
    turn_refused = rw same_memory (sym step_stays)

-- ---- the run

pub as_done : {t u : Turn} → t ≡ u → t.outcome ≡ Ok tt → u.outcome ≡ Ok tt
as_done e o = ap (λ (x : Turn). x.outcome) (sym e) ∙ o

pub not_stopped : AtStop ≡ Spent → ⊥
not_stopped h = let z : ◌≡◌ {A = ℕ} 0 1 = cc in omega arith

pub not_halted : {f : Refusal} → Halted f ≡ Spent → ⊥
not_halted h = let z : ◌≡◌ {A = ℕ} 0 1 = cc in omega arith

pub both : (p q : Bool) → p && q ≡ true → (p ≡ true) × (q ≡ true)
both true true e = (refl, refl)
both true false e = (refl, e)
both false q e = absurd (no_true e)
  where
    no_true : false ≡ true → ⊥
    no_true h = let z : ◌≡◌ {A = ℕ} 0 1 = cc in omega arith

-- a PC that can be
pub pc_fits : (good : Bool) (pc : ℕ) → good && good_pc pc ≡ true → (pc < 16777216) × (pc % 2 ≡ 0)
pc_fits good pc h =
    let (e, l) = both (eqb (pc % 2) 0) (ltb pc 16777216) (both good (good_pc pc) h).1 in
    (ltb-true pc 16777216 l, eqb-true (pc % 2) 0 e)

module _ (b : Board) (rom : List ℕ) (stop : ℕ) (w ram : List ℕ) (r : Registers) (steps states : ℕ) where
  at_stop : (n : ℕ) → eqb r.pc stop ≡ true → along_from b rom stop w n ram r steps states ≡ ran (told r steps states AtStop) ram
  unfolding along_from
  at_stop zero e = rw e
  at_stop (suc n) e = rw e

  pub stops : (n : ℕ) → r.pc ≡ stop → along_from b rom stop w n ram r steps states ≡ ran (told r steps states AtStop) ram
  stops n h = at_stop n (eq-eqb _ _ h)

  pub spent : (budget : ℕ) → (r.pc ≡ stop → ⊥) → steps ≡ budget → along_from b rom stop w (budget - steps) ram r steps states ≡ ran (told r steps states Spent) ram
  unfolding along_from
  spent budget h e = let z : budget - steps ≡ zero = omega arith in rw (z, ne_eqb _ _ h)

  -- a step of the budget is left, and PC is not at the stop address
  module _ (budget : ℕ) (off : r.pc ≡ stop → ⊥) (le : steps ≤ budget) (ne : steps ≡ budget → ⊥) where
    left : budget - steps ≡ suc (budget - (steps + 1))
    left = omega arith

    pub strayed : strays_of w steps r.pc r.condition states ≡ true → along_from b rom stop w (budget - steps) ram r steps states ≡ ran (told r steps states AtStop) ram
    unfolding along_from
    strayed h = rw (left, ne_eqb _ _ off, h)

  module _ (good : good_start b rom ram r ≡ true) (a : StepAnswer) (m : List ℕ) (e : after a m ≡ fetch_of r b rom ram) where
    pub step_is : step_of b rom ram r ≡ after a m
    unfolding step_of
    step_is = rw good (sym e)

    module _ (d : a.outcome ≡ Ok tt) where
      kept : Kept r b rom ram (after a m)
      kept =
          let o : (fetch_of r b rom ram).answer.outcome ≡ (Ok tt) = ap (λ (x : After). x.answer.outcome) (sym e) ∙ d in
          subst (λ (x : After). Kept r b rom ram x) (sym e) (fetch_keeps r b rom ram o)

      pub length_kept : length m ≡ length ram
      length_kept = kept.length_stays

      pub still_good : good_start b rom m a.regs ≡ true
      still_good = rw (kept.length_stays, (both (good_board b (length rom) (length ram)) (good_pc r.pc) good).0) kept.pc_good

    module _ (budget : ℕ) (off : r.pc ≡ stop → ⊥) (le : steps ≤ budget) (ne : steps ≡ budget → ⊥) (on : strays_of w steps r.pc r.condition states ≡ false) where
      pub goes_on : a.outcome ≡ Ok tt
          → along_from b rom stop w (budget - steps) ram r steps states ≡ along_from b rom stop w (budget - (steps + 1)) m a.regs (steps + 1) (states + a.states)
      unfolding along_from
      goes_on d = rw (left budget off le ne, ne_eqb _ _ off, on, step_is, d)

      pub refused : (f : Refusal) → a.outcome ≡ Err f → along_from b rom stop w (budget - steps) ram r steps states ≡ ran (told r steps states (Halted f)) m
      unfolding along_from
      refused f d = rw (left budget off le ne, ne_eqb _ _ off, on, step_is, d)
