-- Whether a call would complete is what the step's outcome says; a return writes nothing. Assumes nothing.
use Rattle.std.specs.Prelude.{Result, Ok, Err}
use Prim.Native.Nat.{ℕ}
use mathlib.Core.Path.{◌≡◌, refl, sym, ap, ◌∙◌}
use mathlib.Core.Bool.{Bool, true, false, ◌&&◌}
use mathlib.Core.List.{List, []}
use native.Mathlib.Omega.{arith}
use lib.Dec.{ltb}
use lib.ListN.{length, drop, drop_of_length-le}
use borrow.Author.Tests.{ltb-false}
use Rattle.arith.specs.declared.Width.TheVariants.{Long}
use Rattle.refusal.specs.declared.Refusal.{Refusal}
use Rattle.registers.specs.declared.Registers.{Registers}
use Rattle.memory.specs.Board.{good_board}
use Rattle.memory.specs.Access.{inside, even_address, second_address, written, both, write_long, write_of}
use Rattle.memory.specs.declared.Board.{Board}
use Rattle.operate.specs.Results.{did}
use Rattle.moves.specs.Moves.{Stepped, stepped, stored_of, push_of, popped_of}
use Rattle.codes.specs.States.{goes_of}
use Rattle.codes.specs.declared.Target.{Target}
use Rattle.codes.specs.declared.Target.TheVariants.{ByReg, Direct, Vector}
use Rattle.codes.specs.declared.Goes.{Goes}
use Rattle.codes.specs.declared.Goes.TheVariants.{Onward, Branches, Jumps, CallsNear, Calls, Returns}
use Rattle.codes.specs.declared.Instruction.{Instruction}
use Rattle.codes.specs.declared.Instruction.TheVariants.{Nop, Stc, LdcReg, Ccr, Alu, IncDec, AddsSubs, Decimal, Shift, Unary, Multiply, Divide, Takes, Gives, Move, Bcc, Jmp, Bsr, Jsr, Rts}
use Rattle.flow.specs.Targets.{next_of}
use Rattle.decoder.specs.MirrorDecode.{decode_of}
use Rattle.step.specs.Follow.{aim_of, follow_of}
use Rattle.step.specs.Step.{effect_of, finish_of, carry_of, obey_of, act_of, fetch_of, good_pc, step_of}
use Rattle.step.specs.Processor.{Calling}
use Rattle.routine.specs.MirrorTurn.{was_read, aims, room_at, below_of, completes_in}

abbrev pub done_of : Result (Unit {0}) Refusal → Bool
done_of (Ok tt) = true
done_of (Err f) = false

-- ---- the write

abbrev stored : Result (Unit {0}) Refusal → Bool
stored (Ok tt) = true
stored (Err f) = false

module _ (r : Registers) (b : Board) (rom ram : List ℕ) where
  put_by : (a x : ℕ) (p q : Bool) → inside b.base (length ram) (even_address a) 2 ≡ p → inside b.base (length ram) (second_address a) 2 ≡ q
      → stored (write_of Long b ram a x).put ≡ p && q
  unfolding write_of write_long written both
  put_by a x true true e h = rw (e, h)
  put_by a x true false e h = rw (e, h)
  put_by a x false q e h = rw e

  put_is : (a x : ℕ) → stored (write_of Long b ram a x).put ≡ room_at b.base (length ram) a
  unfolding room_at
  put_is a x = put_by a x _ _ refl refl

  kept_by : (q : Registers) (p : Result (Unit {0}) Refusal) → done_of (stored_of p r q).outcome ≡ stored p
  unfolding stored_of
  kept_by q (Ok tt) = refl
  kept_by q (Err f) = refl

  push_is : (next : ℕ) → done_of (push_of next r b ram).effect.outcome ≡ room_at b.base (length ram) (below_of r)
  unfolding push_of
  push_is next = kept_by _ _ ∙ put_is (below_of r) next

  -- ---- the target

  aims_is : (t : Target) → aims t b rom ram ≡ was_read (aim_of r b rom ram t)
  unfolding aims aim_of
  aims_is (ByReg e) = refl
  aims_is (Direct a) = refl
  aims_is (Vector a) = refl

  finish_is : (o : Result (Unit {0}) Refusal) (q : Registers) (p n : ℕ) → (finish_of o r q p n).outcome ≡ o
  unfolding finish_of
  finish_is (Ok tt) q p n = refl
  finish_is (Err f) q p n = refl

  -- ---- what calls and returns do

  abbrev EffectIs : ℕ → Goes → Stepped → Type 0
  EffectIs next Onward s = Unit {0}
  EffectIs next (Branches c reach) s = Unit {0}
  EffectIs next (Jumps t) s = Unit {0}
  EffectIs next (CallsNear reach) s = s ≡ push_of next r b ram
  EffectIs next (Calls t) s = s ≡ push_of next r b ram
  EffectIs next Returns s = s ≡ stepped (did (popped_of r)) ram

  effect_is : (next : ℕ) (i : Instruction) → EffectIs next (goes_of i) (effect_of next r b rom ram i)
  unfolding effect_of
  effect_is next Nop = tt
  effect_is next (Stc d) = tt
  effect_is next (LdcReg s) = tt
  effect_is next (Ccr change v) = tt
  effect_is next (Alu op w s d) = tt
  effect_is next (IncDec way w by d) = tt
  effect_is next (AddsSubs way by e) = tt
  effect_is next (Decimal way d) = tt
  effect_is next (Shift turn w d) = tt
  effect_is next (Unary single w d) = tt
  effect_is next (Multiply sign h s d) = tt
  effect_is next (Divide sign h s d) = tt
  effect_is next (Takes take index spot) = tt
  effect_is next (Gives give index spot) = tt
  effect_is next (Move dir w p d) = tt
  effect_is next (Bcc c reach) = tt
  effect_is next (Jmp target) = tt
  effect_is next (Bsr reach) = refl
  effect_is next (Jsr target) = refl
  effect_is next Rts = refl

  -- ---- the step

  -- a call pushes if its target was read
  carried : (g : Result ℕ Refusal) (i : Instruction) (next : ℕ) → effect_of next r b rom ram i ≡ push_of next r b ram
      → done_of (carry_of g i next r b rom ram).answer.outcome ≡ was_read g && room_at b.base (length ram) (below_of r)
  unfolding carry_of
  carried (Ok p) i next e = ap done_of (finish_is _ _ _ _ ∙ ap (λ (s : Stepped). s.effect.outcome) e) ∙ push_is next
  carried (Err f) i next e = refl

  call_by : (g : Goes) (i : Instruction) (next : ℕ) → Calling g → EffectIs next g (effect_of next r b rom ram i)
      → done_of (carry_of (follow_of r b rom ram g next) i next r b rom ram).answer.outcome ≡ completes_in g r b rom ram
  unfolding follow_of completes_in
  call_by Onward i next c e = absurd c
  call_by (Branches d reach) i next c e = absurd c
  call_by (Jumps t) i next c e = absurd c
  call_by (CallsNear reach) i next c e = carried _ i next e
  call_by (Calls t) i next c e = carried _ i next e ∙ ap (λ (x : Bool). x && room_at b.base (length ram) (below_of r)) (sym (aims_is t))
  call_by Returns i next c e = absurd c

  back_by : (g : Result ℕ Refusal) (i : Instruction) (next : ℕ) → effect_of next r b rom ram i ≡ stepped (did (popped_of r)) ram → (carry_of g i next r b rom ram).mem ≡ ram
  unfolding carry_of
  back_by (Ok p) i next e = ap (λ (s : Stepped). s.mem) e
  back_by (Err f) i next e = refl

  module _ (good : good_board b (length rom) (length ram) && good_pc r.pc ≡ true) where
    -- where a code stands, PC is inside
    within : (i : Instruction) (n : ℕ) → decode_of r.pc (drop r.pc rom) ≡ Ok (i, n) → (t : Bool) → ltb r.pc (length rom) ≡ t → t ≡ true
    within i n d true l = refl
    within i n d false l =
        let e = drop_of_length-le rom (ltb-false _ _ l) in
        let h : decode_of r.pc [] ≡ Ok (i, n) = rw e at d in
        let z : ◌≡◌ {A = ℕ} 0 1 = cc in absurd (omega arith)

    obeyed : (i : Instruction) (n : ℕ) → decode_of r.pc (drop r.pc rom) ≡ Ok (i, n)
        → step_of b rom ram r ≡ carry_of (follow_of r b rom ram (goes_of i) (next_of r.pc n)) i (next_of r.pc n) r b rom ram
    unfolding step_of fetch_of act_of obey_of
    obeyed i n d = let l : ltb r.pc (length rom) ≡ true = within i n d _ refl in rw (good, l, d)

    module _ (i : Instruction) (n : ℕ) (d : decode_of r.pc (drop r.pc rom) ≡ Ok (i, n)) where
      pub call_done : Calling (goes_of i) → done_of (step_of b rom ram r).answer.outcome ≡ completes_in (goes_of i) r b rom ram
      call_done c = rw (obeyed i n d) (call_by (goes_of i) i (next_of r.pc n) c (effect_is (next_of r.pc n) i))

      pub return_writes_nothing : goes_of i ≡ Returns → (step_of b rom ram r).mem ≡ ram
      return_writes_nothing h = rw (obeyed i n d) (back_by _ i (next_of r.pc n) (rw h at (effect_is (next_of r.pc n) i)))

    -- where no code stands no step completes
    pub no_step : (f : Refusal) → decode_of r.pc (drop r.pc rom) ≡ Err f → (t : Bool) → ltb r.pc (length rom) ≡ t → done_of (step_of b rom ram r).answer.outcome ≡ false
    unfolding step_of fetch_of act_of
    no_step f d true l = rw (good, l, d)
    no_step f d false l = rw (good, l)
