-- A step at PC, its list as the trail tells it, and its states. Assumes nothing.
use Rattle.std.specs.Prelude.{Result, Ok, Err}
use Prim.Native.Nat.{ℕ, ◌+◌, ◌<◌}
use mathlib.Core.Bool.{Bool, true, false}
use native.Mathlib.Omega.{arith}
use lib.Dec.{ltb}
use lib.ListN.{length, drop}
use mathlib.Core.Path.{◌≡◌, refl, sym, ap, ◌∙◌}
use mathlib.Core.List.{List, [], ◌∷◌, ◌++◌, append-nil}
use Rattle.refusal.specs.declared.Refusal.{Refusal}
use Rattle.registers.specs.declared.Registers.{Registers}
use Rattle.memory.specs.Trail.{touch_of, noted, call_in, trail_in}
use Rattle.memory.specs.declared.Board.{Board}
use Rattle.memory.specs.declared.told.Access.{Access}
use Rattle.memory.proofs.Trails.{touch_under, call_is, none_told, told_behind}
use Rattle.timing.specs.Made.{made_at, writes, sum_of, base_of}
use Rattle.moves.specs.Made.{where_of, gathered, made_of, trail_of, states_at}
use Rattle.codes.specs.Cycles.{Touch, touches_of}
use Rattle.codes.specs.declared.Spot.TheVariants.{InPart, AtEr, AtAbs}
use Rattle.codes.specs.declared.Target.TheVariants.{ByReg, Direct, Vector}
use Rattle.codes.specs.declared.Instruction.{Instruction}
use Rattle.codes.specs.declared.Instruction.TheVariants.{Nop, Stc, LdcReg, Ccr, Alu, IncDec, AddsSubs, Decimal, Shift, Unary, Multiply, Divide, Takes, Gives, Move, Bcc, Jmp, Bsr, Jsr, Rts}
use Rattle.decoder.specs.MirrorDecode.{decode_of}
use Rattle.step.specs.declared.StepAnswer.{StepAnswer}
use Rattle.step.specs.Step.{After, after, good_start, finish_of, carry_of, obey_of, act_of, fetch_of, step_of}
use Rattle.turns.specs.MirrorTurn.{touched_by}
use Rattle.run.specs.MirrorTrail.{trail_at}
use Rattle.watch.specs.declared.Watched.{Watched}
use Rattle.watch.specs.Watch.{listed, made_by, list_of, Summed}

-- ---- the trail of an instruction

-- no instruction makes more than two reads and writes
data Few : List Touch → Type 0 where
  no_touch : Few []
  one_touch : (t : Touch) → Few (t ∷ [])
  two_touches : (t u : Touch) → Few (t ∷ u ∷ [])

few : (i : Instruction) → Few (touches_of i)
few Nop = no_touch
few (Stc d) = no_touch
few (LdcReg s) = no_touch
few (Ccr change v) = no_touch
few (Alu op w s d) = no_touch
few (IncDec way w by d) = no_touch
few (AddsSubs way by e) = no_touch
few (Decimal way d) = no_touch
few (Shift turn w d) = no_touch
few (Unary single w d) = no_touch
few (Multiply sign h s d) = no_touch
few (Divide sign h s d) = no_touch
few (Takes take index (InPart d)) = no_touch
few (Takes take index (AtEr e)) = one_touch _
few (Takes take index (AtAbs a)) = one_touch _
few (Gives give index (InPart d)) = no_touch
few (Gives give index (AtEr e)) = two_touches _ _
few (Gives give index (AtAbs a)) = two_touches _ _
few (Move dir w p d) = one_touch _
few (Bcc c reach) = no_touch
few (Jmp (ByReg e)) = no_touch
few (Jmp (Direct a)) = no_touch
few (Jmp (Vector a)) = one_touch _
few (Bsr reach) = one_touch _
few (Jsr (ByReg e)) = one_touch _
few (Jsr (Direct a)) = one_touch _
few (Jsr (Vector a)) = two_touches _ _
few Rts = one_touch _

none_called : call_in 0 ≡ []
unfolding call_in
none_called = refl

module _ (r : Registers) where
  abbrev number : Touch → ℕ
  number t = touch_of (writes t.dir) t.width (where_of r t)

  abbrev made : Touch → List Access
  made t = made_at t.dir t.width (where_of r t)

  call_made : (t : Touch) → call_in (number t) ≡ made t
  unfolding made_at
  call_made t = call_is (writes t.dir) t.width (where_of r t)

  under : (t : Touch) → number t < 134217728
  under t = touch_under (writes t.dir) t.width (where_of r t)

  first : (t : Touch) → noted 0 (number t) ≡ number t
  first t = omega arith

  few_made : {ts : List Touch} → Few ts → trail_in (trail_of r 0 ts) ≡ gathered r ts
  few_made no_touch = none_told
  few_made (one_touch t) =
      let e : call_in 0 ++ call_in (number t) ≡ made t ++ [] = rw (none_called, call_made t, append-nil) in
      told_behind 0 (number t) (omega arith) (under t) ∙ e
  few_made (two_touches t u) =
      let e : call_in (number t) ++ call_in (number u) ≡ made t ++ (made u ++ []) = rw (call_made t, call_made u, append-nil) in
      ap (λ (n : ℕ). trail_in (noted n (number u))) (first t) ∙ told_behind (number t) (number u) (under t) (under u) ∙ e

  trail_by : (d : Result (Instruction × ℕ) Refusal) → trail_in (trail_of r 0 (touched_by d)) ≡ made_by d r
  trail_by (Ok (i, n)) = few_made (few i)
  trail_by (Err f) = none_told

-- the list that is unpacked is the list of the step
module _ (b : Board) (rom ram : List ℕ) (r : Registers) (a : StepAnswer) (ram' : List ℕ) (s : after a ram' ≡ step_of b rom ram r) where
  pub told_list : (t : ℕ) (xs : List Access) → (a.outcome ≡ Ok tt → t ≡ trail_at rom r) → xs ≡ listed a.outcome (trail_in t) → xs ≡ list_of b rom ram r
  unfolding list_of listed
  told_list t xs h e = e ∙ go a.outcome refl ∙ ap (λ (x : After). listed x.answer.outcome (made_by (decode_of r.pc (drop r.pc rom)) r)) s
    where
      go : (o : Result (Unit {0}) Refusal) → a.outcome ≡ o → listed o (trail_in t) ≡ listed o (made_by (decode_of r.pc (drop r.pc rom)) r)
      go (Ok tt) d = ap (λ (n : ℕ). trail_in n) (h d) ∙ trail_by r (decode_of r.pc (drop r.pc rom))
      go (Err f) d = refl

-- ---- the step at PC

-- an instruction stands at PC, on a right board
pub record At (d : Result (Instruction × ℕ) Refusal) (b : Board) (rom ram : List ℕ) (r : Registers) : Type 0 where
  pub good : good_start b rom ram r ≡ true
  pub within : ltb r.pc (length rom) ≡ true
  pub is : decode_of r.pc (drop r.pc rom) ≡ d

module _ {b : Board} {rom ram : List ℕ} {r : Registers} {d : Result (Instruction × ℕ) Refusal} (h : At d b rom ram r) where
  pub at_step : step_of b rom ram r ≡ act_of d r b rom ram
  unfolding step_of fetch_of
  at_step = rw (h.good, h.within, h.is)

  pub at_list : list_of b rom ram r ≡ listed (act_of d r b rom ram).answer.outcome (made_by d r)
  unfolding list_of
  at_list = rw (at_step, h.is)

-- ---- a completed step, and its states

abbrev instruction_of : Result (Instruction × ℕ) Refusal → Instruction
instruction_of (Ok (i, n)) = i
instruction_of (Err f) = Nop

module _ (b : Board) (rom ram : List ℕ) (r : Registers) where
  pub done_at : (step_of b rom ram r).answer.outcome ≡ Ok tt → (i : Instruction) × (n : ℕ) × At (Ok (i, n)) b rom ram r
  unfolding step_of fetch_of act_of
  done_at e = go _ _ _ refl refl refl
    where
      go : (t u : Bool) (d : Result (Instruction × ℕ) Refusal) → good_start b rom ram r ≡ t → ltb r.pc (length rom) ≡ u → decode_of r.pc (drop r.pc rom) ≡ d
          → (i : Instruction) × (n : ℕ) × At (Ok (i, n)) b rom ram r
      go true true (Ok (i, n)) g l d = (i, n, record { good = g; within = l; is = d })
      go true true (Err f) g l d = let k = rw (g, l, d) at e in let z : ◌≡◌ {A = ℕ} 0 1 = cc in absurd (omega arith)
      go true false d g l h = let k = rw (g, l) at e in let z : ◌≡◌ {A = ℕ} 0 1 = cc in absurd (omega arith)
      go false u d g l h = let k = rw g at e in let z : ◌≡◌ {A = ℕ} 0 1 = cc in absurd (omega arith)

  finish_states : (o : Result (Unit {0}) Refusal) (q : Registers) (p n : ℕ) → (finish_of o r q p n).outcome ≡ Ok tt → (finish_of o r q p n).states ≡ n
  unfolding finish_of
  finish_states (Ok tt) q p n e = refl
  finish_states (Err f) q p n e = let z : ◌≡◌ {A = ℕ} 0 1 = cc in absurd (omega arith)

  carry_states : (g : Result ℕ Refusal) (i : Instruction) (next : ℕ) → (carry_of g i next r b rom ram).answer.outcome ≡ Ok tt
      → (carry_of g i next r b rom ram).answer.states ≡ states_at b.site r i
  unfolding carry_of
  carry_states (Ok p) i next e = finish_states _ _ p _ e
  carry_states (Err f) i next e = let z : ◌≡◌ {A = ℕ} 0 1 = cc in absurd (omega arith)

  act_states : (i : Instruction) (n : ℕ) → (act_of (Ok (i, n)) r b rom ram).answer.outcome ≡ Ok tt
      → (act_of (Ok (i, n)) r b rom ram).answer.states ≡ base_of i + sum_of b.site (listed (act_of (Ok (i, n)) r b rom ram).answer.outcome (made_of r i))
  unfolding act_of obey_of states_at listed
  act_states i n e = carry_states _ i _ e ∙ rw e

  -- the states of a completed step are its fetch and internal states, and the sum over its list
  step_sum : (i : Instruction) (n : ℕ) → decode_of r.pc (drop r.pc rom) ≡ Ok (i, n) → (step_of b rom ram r).answer.outcome ≡ Ok tt
      → (step_of b rom ram r).answer.states ≡ base_of i + sum_of b.site (list_of b rom ram r)
  step_sum i n d e =
      let (j, m, h) = done_at e in
      let k : j ≡ i = ap instruction_of (sym h.is ∙ d) in
      rw (at_list h, at_step h) (act_states j m (rw (at_step h) at e) ∙ rw k)

  pub told_sum : (q : Watched) (ram' : List ℕ) → after q.answer ram' ≡ step_of b rom ram r → q.list.items ≡ list_of b rom ram r → Summed b rom r q
  told_sum q ram' h l i n d e =
      let s : q.answer ≡ (step_of b rom ram r).answer = ap (λ (a : After). a.answer) h in
      rw (s, l) (step_sum i n d (rw s at e))

-- the step that is watched and the one that is not are one step: both are `step_of`
pub one_step : (b : Board) (rom ram : List ℕ) (r : Registers) (q : Watched) (a : StepAnswer) (m m' : List ℕ) → after q.answer m ≡ step_of b rom ram r
    → after a m' ≡ step_of b rom ram r → (q.answer ≡ a) × (m ≡ m')
one_step b rom ram r q a m m' h k =
    let e : after q.answer m ≡ after a m' = h ∙ sym k in
    (ap (λ (x : After). x.answer) e, ap (λ (x : After). x.mem) e)
