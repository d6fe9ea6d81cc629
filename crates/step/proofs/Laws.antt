-- What a step can come to, and the laws that follow: a refused step changes nothing; a completed one adds exactly its instruction's states, sets PC to
-- where the instruction goes, and keeps registers and memory in range. Assumes nothing.
use Rattle.std.specs.Prelude.{Result, Ok, Err, Option, Some, None, Bool}
use Prim.Native.Nat.{ℕ, ◌≤◌}
use mathlib.Core.Path.{◌≡◌, refl}
use mathlib.Core.Bool.{Bool, true, false}
use mathlib.Core.List.{List}
use native.Mathlib.Omega.{arith}
use lib.Dec.{ltb}
use lib.ListN.{length, drop}
use borrow.Author.Tests.{eq-eqb, lt-ltb}
use mathlib.Core.Logic.{inl, inr}
use Rattle.arith.specs.declared.Moved.{Moved}
use Rattle.refusal.specs.Refusals.{number_of}
use Rattle.machine.specs.Machine.{ByData}
use Rattle.refusal.specs.declared.Refusal.{Refusal}
use Rattle.refusal.specs.declared.Refusal.TheVariants.{BadBoard, FetchOutside, NoAdjustRow, DivideFails}
use Rattle.registers.specs.declared.Registers.{Registers}
use Rattle.registers.specs.Parts.{with_pc}
use Rattle.registers.proofs.Kept.{Whole, whole_part, whole_condition, whole_pc, pc_even}
use Rattle.memory.specs.Board.{good_board}
use Rattle.memory.specs.Access.{write_of}
use Rattle.memory.specs.declared.Board.{Board}
use Rattle.memory.proofs.Laws.{read_number, write_left, write_number, write_length}
use Rattle.operate.specs.Operate.{adjusted_of, decimal_of, carried_of}
use Rattle.operate.specs.Results.{did, refused}
use Rattle.multiply.specs.Multiply.{divided_of, divide_of}
use Rattle.products.specs.declared.Half.{Half}
use Rattle.bitwork.specs.Bitwork.{took_from, takes_at, gave_to, gives_at, takes_of, gives_of}
use Rattle.timing.proofs.Few.{most_few}
use Rattle.moves.specs.Made.{states_at}
use Rattle.moves.proofs.States.{never_more}
use Rattle.moves.specs.Moves.{Stepped, stepped, step_over, loaded_of, load_of, stored_of, store_of, push_of}
use Rattle.flow.specs.Targets.{next_of}
use Rattle.decoder.specs.MirrorDecode.{decode_of}
use Rattle.codes.specs.States.{goes_of}
use Rattle.step.specs.Follow.{aim_of, follow_of}
use Rattle.step.specs.Step.{transfer_of, effect_of, After, after, answered, stays, finish_of, carry_of, obey_of, act_of, fetch_of, good_pc, good_start, step_of}
use Rattle.step.proofs.Range.{whole_stc, whole_ldc, whole_ccr, whole_alu, whole_inc_dec, whole_carried, whole_adds_subs, whole_added, whole_shift, whole_unary, whole_put, whole_multiply, whole_over, whole_took}
use Rattle.arith.specs.declared.Width.{Width}
use Rattle.arith.specs.declared.Width.TheVariants.{Byte, Long}
use Rattle.codes.specs.declared.Dir.{Dir}
use Rattle.codes.specs.declared.Dir.TheVariants.{Load, Store}
use Rattle.codes.specs.declared.Place.{Place}
use Rattle.codes.specs.declared.Take.{Take}
use Rattle.codes.specs.declared.Give.{Give}
use Rattle.codes.specs.declared.Index.{Index}
use Rattle.codes.specs.declared.Spot.{Spot}
use Rattle.codes.specs.declared.Spot.TheVariants.{InPart, AtEr, AtAbs}
use Rattle.codes.specs.declared.Target.{Target}
use Rattle.codes.specs.declared.Target.TheVariants.{ByReg, Direct, Vector}
use Rattle.codes.specs.declared.Instruction.{Instruction}
use Rattle.codes.specs.declared.Instruction.TheVariants.{Nop, Stc, LdcReg, Ccr, Alu, IncDec, AddsSubs, Decimal, Shift, Unary, Multiply, Divide, Takes, Gives, Move, Bcc, Jmp, Bsr, Jsr, Rts}
use Rattle.codes.specs.declared.Goes.{Goes}
use Rattle.codes.specs.declared.Goes.TheVariants.{Onward, Branches, Jumps, CallsNear, Calls, Returns}
use Rattle.codes.specs.declared.Way.TheVariants.{Up, Down}

-- what an instruction does to registers r and working memory ram: it is done, or refused by its data, and then nothing changed
pub data Done-or-not (r : Registers) (ram : List ℕ) : Stepped → Type 0 where
  done : (q : Registers) (m : List ℕ) → length m ≡ length ram → (Whole r → Whole q) → Done-or-not r ram (stepped (did q) m)
  not_done : (f : Refusal) → ByData f → Done-or-not r ram (stepped (refused r f) ram)

module _ (r : Registers) (b : Board) (rom ram : List ℕ) where
  load_view : (w : Width) (d : ℕ) (raised : Registers) → (Whole r → Whole raised) → (g : Result ℕ Refusal) → ((f : Refusal) → g ≡ Err f → number_of f ≡ 5)
      → Done-or-not r ram (stepped (loaded_of g w d r raised) ram)
  unfolding loaded_of
  load_view w d raised h (Ok x) five = done _ ram refl (λ i. whole_condition _ _ (whole_part w raised d _ (h i)))
  load_view w d raised h (Err f) five = not_done f (inl (five f refl))

  store_view : (w : Width) (a x : ℕ) (q : Registers) → (Whole r → Whole q) → (p : Result (Unit {0}) Refusal) → (write_of w b ram a x).put ≡ p
      → Done-or-not r ram (stepped (stored_of (write_of w b ram a x).put r q) (write_of w b ram a x).mem)
  unfolding stored_of
  store_view w a x q h (Ok tt) e = rw e (done q (write_of w b ram a x).mem (write_length w b ram a x) h)
  store_view w a x q h (Err f) e = rw (e, write_left w b ram a x f e) (not_done f (inr (inl (write_number w b ram a x f e))))

  adjust_view : (a : Option (ℕ × Bool)) (x d : ℕ) → Done-or-not r ram (stepped (adjusted_of a x d r) ram)
  unfolding adjusted_of
  adjust_view (Some (v, c)) x d = done _ ram refl (whole_added v c x d r)
  adjust_view None x d = not_done (NoAdjustRow r.pc) (inr (inr (inl refl)))

  divide_view : (q : Option Moved) (h : Half) (d : ℕ) → Done-or-not r ram (stepped (divided_of q h d r) ram)
  unfolding divided_of
  divide_view (Some x) h d = done _ ram refl (whole_put h d r x)
  divide_view None h d = not_done (DivideFails r.pc) (inr (inr (inr refl)))

  took_view : (take : Take) (index : Index) (g : Result ℕ Refusal) → ((f : Refusal) → g ≡ Err f → number_of f ≡ 5) → Done-or-not r ram (stepped (took_from g take index r) ram)
  unfolding took_from
  took_view take index (Ok x) five = done _ ram refl (whole_took take index x r)
  took_view take index (Err f) five = not_done f (inl (five f refl))

  takes_view : (take : Take) (index : Index) (spot : Spot) → Done-or-not r ram (stepped (takes_of take index spot r b rom ram) ram)
  unfolding takes_of takes_at
  takes_view take index (InPart d) = done _ ram refl (whole_took take index _ r)
  takes_view take index (AtEr e) = took_view take index _ (λ f h. read_number Byte b rom ram _ f h)
  takes_view take index (AtAbs a) = took_view take index _ (λ f h. read_number Byte b rom ram _ f h)

  gave_view : (give : Give) (index : Index) (a : ℕ) (g : Result ℕ Refusal) → ((f : Refusal) → g ≡ Err f → number_of f ≡ 5) → Done-or-not r ram (gave_to g give index a r b ram)
  unfolding gave_to
  gave_view give index a (Ok x) five = store_view Byte a _ r (λ h. h) _ refl
  gave_view give index a (Err f) five = not_done f (inl (five f refl))

  gives_view : (give : Give) (index : Index) (spot : Spot) → Done-or-not r ram (gives_of give index spot r b rom ram)
  unfolding gives_of gives_at
  gives_view give index (InPart d) = done _ ram refl (whole_part Byte r d _)
  gives_view give index (AtEr e) = gave_view give index _ _ (λ f h. read_number Byte b rom ram _ f h)
  gives_view give index (AtAbs a) = gave_view give index _ _ (λ f h. read_number Byte b rom ram _ f h)

  transfer_view : (next : ℕ) (dir : Dir) (w : Width) (p : Place) (d : ℕ) → Done-or-not r ram (transfer_of next r b rom ram dir w p d)
  unfolding transfer_of load_of store_of
  transfer_view next Load w p d = load_view w d (step_over Up w p r) (whole_over Up w p r) _ (λ f e. read_number w b rom ram _ f e)
  transfer_view next Store w p d = store_view w _ _ _ (λ h. whole_condition _ _ (whole_over Down w p r h)) _ refl

  push_view : (next : ℕ) → Done-or-not r ram (push_of next r b ram)
  unfolding push_of
  push_view next = store_view Long _ next (carried_of Down 4 7 r) (whole_carried Down 4 7 r) _ refl

  pub effect_view : (next : ℕ) (i : Instruction) → Done-or-not r ram (effect_of next r b rom ram i)
  unfolding effect_of decimal_of divide_of
  effect_view next Nop = done r ram refl (λ h. h)
  effect_view next (Stc d) = done _ ram refl (whole_stc d r)
  effect_view next (LdcReg s) = done _ ram refl (whole_ldc s r)
  effect_view next (Ccr change v) = done _ ram refl (whole_ccr change v r)
  effect_view next (Alu op w s d) = done _ ram refl (whole_alu op w s d r)
  effect_view next (IncDec way w by d) = done _ ram refl (whole_inc_dec way w by d r)
  effect_view next (AddsSubs way by e) = done _ ram refl (whole_adds_subs way by e r)
  effect_view next (Decimal way d) = adjust_view _ _ d
  effect_view next (Shift turn w d) = done _ ram refl (whole_shift turn w d r)
  effect_view next (Unary single w d) = done _ ram refl (whole_unary single w d r)
  effect_view next (Multiply sign h s d) = done _ ram refl (whole_multiply sign h s d r)
  effect_view next (Divide sign h s d) = divide_view _ h d
  effect_view next (Takes take index spot) = takes_view take index spot
  effect_view next (Gives give index spot) = gives_view give index spot
  effect_view next (Move dir w p d) = transfer_view next dir w p d
  effect_view next (Bcc c reach) = done r ram refl (λ h. h)
  effect_view next (Jmp target) = done r ram refl (λ h. h)
  effect_view next (Bsr reach) = push_view next
  effect_view next (Jsr target) = push_view next
  effect_view next Rts = done _ ram refl (whole_carried Up 4 7 r)

  aim_five : (t : Target) (f : Refusal) → aim_of r b rom ram t ≡ Err f → number_of f ≡ 5
  unfolding aim_of
  aim_five (ByReg e) f h = let z : ◌≡◌ {A = ℕ} 0 1 = cc in absurd (omega arith)
  aim_five (Direct a) f h = let z : ◌≡◌ {A = ℕ} 0 1 = cc in absurd (omega arith)
  aim_five (Vector a) f h = read_number Long b rom ram a f h

  follow_five : (g : Goes) (next : ℕ) (f : Refusal) → follow_of r b rom ram g next ≡ Err f → number_of f ≡ 5
  unfolding follow_of
  follow_five Onward next f h = let z : ◌≡◌ {A = ℕ} 0 1 = cc in absurd (omega arith)
  follow_five (Branches c reach) next f h = let z : ◌≡◌ {A = ℕ} 0 1 = cc in absurd (omega arith)
  follow_five (Jumps t) next f h = aim_five t f h
  follow_five (CallsNear reach) next f h = let z : ◌≡◌ {A = ℕ} 0 1 = cc in absurd (omega arith)
  follow_five (Calls t) next f h = aim_five t f h
  follow_five Returns next f h = read_number Long b rom ram _ f h

  -- what a step on a right board comes to
  pub data Comes : After → Type 0 where
    outside : ltb r.pc (length rom) ≡ false → Comes (after (stays r (FetchOutside r.pc)) ram)
    no_code : (f : Refusal) → ltb r.pc (length rom) ≡ true → decode_of r.pc (drop r.pc rom) ≡ Err f → Comes (after (stays r f) ram)
    by_data : (i : Instruction) (n : ℕ) (f : Refusal) → ltb r.pc (length rom) ≡ true → decode_of r.pc (drop r.pc rom) ≡ Ok (i, n) → ByData f
        → Comes (after (stays r f) ram)
    completes : (i : Instruction) (n p : ℕ) (q : Registers) (m : List ℕ) → ltb r.pc (length rom) ≡ true → decode_of r.pc (drop r.pc rom) ≡ Ok (i, n)
        → follow_of r b rom ram (goes_of i) (next_of r.pc n) ≡ Ok p → effect_of (next_of r.pc n) r b rom ram i ≡ stepped (did q) m
        → length m ≡ length ram → (Whole r → Whole q) → Comes (after (answered (with_pc q p) (states_at b.site r i) (Ok tt)) m)

  module _ (i : Instruction) (n : ℕ) (l : ltb r.pc (length rom) ≡ true) (d : decode_of r.pc (drop r.pc rom) ≡ Ok (i, n)) where
    finished : (p : ℕ) → follow_of r b rom ram (goes_of i) (next_of r.pc n) ≡ Ok p → (s : Stepped) → effect_of (next_of r.pc n) r b rom ram i ≡ s
        → Done-or-not r ram s → Comes (after (finish_of s.effect.outcome r s.effect.regs p (states_at b.site r i)) s.mem)
    unfolding finish_of
    finished p g s e (done q m k h) = completes i n p q m l d g e k h
    finished p g s e (not_done f h) = by_data i n f l d h

    carried : (g : Result ℕ Refusal) → follow_of r b rom ram (goes_of i) (next_of r.pc n) ≡ g → Comes (carry_of g i (next_of r.pc n) r b rom ram)
    unfolding carry_of
    carried (Ok p) e = finished p e _ refl (effect_view (next_of r.pc n) i)
    carried (Err f) e = by_data i n f l d (inl (follow_five (goes_of i) (next_of r.pc n) f e))

    obeyed : Comes (obey_of i n r b rom ram)
    unfolding obey_of
    obeyed = carried _ refl

  acted : ltb r.pc (length rom) ≡ true → (d : Result (Instruction × ℕ) Refusal) → decode_of r.pc (drop r.pc rom) ≡ d → Comes (act_of d r b rom ram)
  unfolding act_of
  acted l (Ok (i, n)) e = obeyed i n l e
  acted l (Err f) e = no_code f l e

  fetched : (t : Bool) → ltb r.pc (length rom) ≡ t → Comes (fetch_of r b rom ram)
  unfolding fetch_of
  fetched true e = rw e (acted e _ refl)
  fetched false e = rw e (outside e)

  pub comes : Comes (fetch_of r b rom ram)
  comes = fetched _ refl

module _ (r : Registers) (b : Board) (rom ram : List ℕ) where
  -- a refused step changes nothing, and adds no states
  refused_stays : (a : After) → Comes r b rom ram a → (f : Refusal) → a.answer.outcome ≡ Err f → a ≡ after (stays r f) ram
  refused_stays a (outside l) f e = let h : FetchOutside r.pc ≡ f = cc in rw h
  refused_stays a (no_code g l d) f e = let h : g ≡ f = cc in rw h
  refused_stays a (by_data i n g l d k) f e = let h : g ≡ f = cc in rw h
  refused_stays a (completes i n p q m l d g e' k h) f e = let z : ◌≡◌ {A = ℕ} 0 1 = cc in absurd (omega arith)

  -- a completed step leaves PC even and below 2^24, the registers in range and working memory's length
  pub record Kept (a : After) : Type 0 where
    pub pc_good : good_pc a.answer.regs.pc ≡ true
    pub whole : Whole r → Whole a.answer.regs
    pub length_stays : length a.mem ≡ length ram

  done_keeps : (a : After) → Comes r b rom ram a → a.answer.outcome ≡ Ok tt → Kept a
  done_keeps a (outside l) e = let z : ◌≡◌ {A = ℕ} 0 1 = cc in absurd (omega arith)
  done_keeps a (no_code g l d) e = let z : ◌≡◌ {A = ℕ} 0 1 = cc in absurd (omega arith)
  done_keeps a (by_data i n g l d k) e = let z : ◌≡◌ {A = ℕ} 0 1 = cc in absurd (omega arith)
  done_keeps a (completes i n p q m l d g e' k h) e =
      let (x, y) = pc_even q p in
      record {
        pc_good = rw (eq-eqb _ _ x, lt-ltb _ _ y);
        whole = λ u. whole_pc q p (h u);
        length_stays = k;
      }

  stepped_by : (t : Bool) → good_start b rom ram r ≡ t → (f : Refusal) → (step_of b rom ram r).answer.outcome ≡ Err f
      → step_of b rom ram r ≡ after (stays r f) ram
  unfolding step_of
  stepped_by true t f e = rw t (refused_stays _ (comes r b rom ram) f (rw t at e))
  stepped_by false t f e = let k = rw t at e in let h : BadBoard ≡ f = cc in rw (t, h)

  -- on any board
  pub step_refused : (f : Refusal) → (step_of b rom ram r).answer.outcome ≡ Err f → step_of b rom ram r ≡ after (stays r f) ram
  step_refused f e = stepped_by _ refl f e

  -- on a right board, from a PC that can be, a step is the inner step
  pub step_is : good_board b (length rom) (length ram) ≡ true → good_pc r.pc ≡ true → step_of b rom ram r ≡ fetch_of r b rom ram
  unfolding step_of
  step_is g p = rw (g, p)

  pub fetch_keeps : (fetch_of r b rom ram).answer.outcome ≡ Ok tt → Kept (fetch_of r b rom ram)
  fetch_keeps e = done_keeps _ (comes r b rom ram) e

  pub fetch_refused : (f : Refusal) → (fetch_of r b rom ram).answer.outcome ≡ Err f → fetch_of r b rom ram ≡ after (stays r f) ram
  fetch_refused f e = refused_stays _ (comes r b rom ram) f e

  few : (a : After) → Comes r b rom ram a → a.answer.states ≤ 32
  few a (outside l) = omega arith
  few a (no_code f l d) = omega arith
  few a (by_data i n f l d k) = omega arith
  few a (completes i n p q m l d g e k h) = omega (arith, never_more b.site r i, most_few b.site i)

  few_on : (t : Bool) → good_start b rom ram r ≡ t → (step_of b rom ram r).answer.states ≤ 32
  unfolding step_of
  few_on true e = rw e (few _ (comes r b rom ram))
  few_on false e = rw e (omega arith)

  -- a step takes at most 32 states
  pub step_states : (step_of b rom ram r).answer.states ≤ 32
  step_states = few_on _ refl
