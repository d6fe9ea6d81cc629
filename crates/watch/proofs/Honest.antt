-- The list of a step is honest. Each entry of a completed step lies inside: a read in either memory, a write in working memory. A refusal 5 or 6 names the
-- first access of the instruction that does not. A byte of working memory that no write of the list reaches is unchanged. Of working memory the answer of a
-- completed step depends only on what the reads of its list reach. Assumes nothing.
use Rattle.std.specs.Prelude.{Result, Ok, Err, Option, Some, None, Bool}
use Prim.Native.Nat.{ℕ, ◌+◌, ◌-◌, ◌*◌, ◌/◌, ◌%◌, ◌≤◌, ◌<◌}
use mathlib.Core.Path.{◌≡◌, refl, sym, ap, ◌∙◌}
use mathlib.Core.Bool.{Bool, true, false, cond, ◌&&◌, ◌||◌}
use mathlib.Core.List.{List, [], ◌∷◌, ◌++◌, append-nil}
use mathlib.Core.Logic.{◌⊎◌, ⊎_elim}
use native.Mathlib.Omega.{arith}
use lib.Dec.{ltb, eqb}
use lib.ListN.{length, drop}
use borrow.Author.Tests.{eqb-true, leb-true, le-leb, lt-ltb}
use Rattle.arith.specs.declared.Moved.{Moved}
use Rattle.refusal.specs.Refusals.{number_of}
use Rattle.refusal.specs.declared.Refusal.{Refusal}
use Rattle.refusal.specs.declared.Refusal.TheVariants.{BadBoard, FetchOutside, ReadOutside, WriteOutside, NoAdjustRow, DivideFails}
use Rattle.arith.specs.declared.Width.{Width}
use Rattle.arith.specs.declared.Width.TheVariants.{Byte, Word, Long}
use Rattle.products.specs.declared.Half.{Half}
use Rattle.registers.specs.declared.Registers.{Registers}
use Rattle.memory.specs.Access.{address, even_address, second_address, inside, byte_at, word_at, read_part, joined, read_long, read_of, room, both, written, write_part, write_byte, write_word, write_long, write_of}
use Rattle.memory.specs.Reach.{reaches}
use Rattle.memory.specs.declared.Board.{Board}
use Rattle.memory.proofs.Laws.{write_left, write_others}
use Rattle.memory.specs.Told.{access_of, accesses_at}
use Rattle.memory.specs.declared.told.Access.{Access}
use Rattle.timing.specs.Made.{made_at}
use Rattle.operate.specs.Operate.{adjusted_of, decimal_of}
use Rattle.operate.specs.Results.{Effect, did, refused}
use Rattle.multiply.specs.Multiply.{divided_of, divide_of}
use Rattle.bitwork.specs.Bitwork.{took_from, takes_at, gave_to, gives_at, takes_of, gives_of}
use Rattle.moves.specs.Moves.{Stepped, stepped, address_of, step_over, loaded_of, load_of, stored_of, store_of, push_of}
use Rattle.moves.specs.Made.{made_of, states_at}
use Rattle.flow.specs.Targets.{next_of}
use Rattle.decoder.specs.MirrorDecode.{decode_of}
use Rattle.codes.specs.States.{goes_of}
use Rattle.codes.specs.declared.Dir.TheVariants.{Load, Store}
use Rattle.codes.specs.declared.Take.{Take}
use Rattle.codes.specs.declared.Give.{Give}
use Rattle.codes.specs.declared.Index.{Index}
use Rattle.codes.specs.declared.Spot.TheVariants.{InPart, AtEr, AtAbs}
use Rattle.codes.specs.declared.Target.TheVariants.{ByReg, Direct, Vector}
use Rattle.codes.specs.declared.Instruction.{Instruction}
use Rattle.codes.specs.declared.Instruction.TheVariants.{Nop, Stc, LdcReg, Ccr, Alu, IncDec, AddsSubs, Decimal, Shift, Unary, Multiply, Divide, Takes, Gives, Move, Bcc, Jmp, Bsr, Jsr, Rts}
use Rattle.step.specs.declared.StepAnswer.{StepAnswer}
use Rattle.step.specs.Follow.{aim_of, follow_of}
use Rattle.step.specs.Step.{transfer_of, effect_of, After, after, answered, stays, finish_of, carry_of, obey_of, act_of, fetch_of, good_start, step_of}
use Rattle.step.proofs.Laws.{step_refused}
use Rattle.watch.specs.Watch.{listed, made_by, list_of, reached, Spared, Spares}
use Rattle.watch.specs.Honest.{lies, AllLie, none, more, FirstOut, here, there, outside_of, ReadAt, at_first, later, Alike}
use Rattle.watch.proofs.Laws.{At, at_step, at_list, done_at}

-- ---- lists

module _ (b : Board) (rom ram : List ℕ) where
  all_append : {xs ys : List Access} → AllLie b rom ram xs → AllLie b rom ram ys → AllLie b rom ram (xs ++ ys)
  all_append none t = t
  all_append (more e s) t = more e (all_append s t)

  out_left : {xs : List Access} {y : Access} (ys : List Access) → FirstOut b rom ram xs y → FirstOut b rom ram (xs ++ ys) y
  out_left ys (here e) = here e
  out_left ys (there e s) = there e (out_left ys s)

  out_right : {xs ys : List Access} {y : Access} → AllLie b rom ram xs → FirstOut b rom ram ys y → FirstOut b rom ram (xs ++ ys) y
  out_right none t = t
  out_right (more e s) t = there e (out_right s t)

spared_right : (p : ℕ) (xs ys : List Access) → Spared p (xs ++ ys) → Spared p ys
spared_right p [] ys s = s
spared_right p (x ∷ xs) ys s = spared_right p xs ys s.1

-- ---- one read, one write

-- what an access comes to: inside, or refused at its place
data Tried (t : Bool) (d : Bool) (p : ℕ) : Result ℕ Refusal → Type 0 where
  found : {x : ℕ} → t ≡ true → Tried t d p (Ok x)
  outside : t ≡ false → Tried t d p (Err (outside_of (access_of d 1 p)))

data Room (t : Bool) (p : ℕ) : Result (Unit {0}) Refusal → Type 0 where
  fits : t ≡ true → Room t p (Ok tt)
  full : t ≡ false → Room t p (Err (WriteOutside p))

module _ (b : Board) (rom ram : List ℕ) where
  abbrev Lie : List Access → Type 0
  Lie xs = AllLie b rom ram xs

  abbrev Out : List Access → Access → Type 0
  Out xs y = FirstOut b rom ram xs y

  data ReadView (xs : List Access) : Result ℕ Refusal → Type 0 where
    all_read : {x : ℕ} → Lie xs → ReadView xs (Ok x)
    one_out : {y : Access} → Out xs y → ReadView xs (Err (outside_of y))

  data WriteView (xs : List Access) : Result (Unit {0}) Refusal → Type 0 where
    all_stored : Lie xs → WriteView xs (Ok tt)
    none_stored : {y : Access} → Out xs y → WriteView xs (Err (outside_of y))

  part_tried : (n : ℕ) (at : List ℕ → ℕ → ℕ) (p : ℕ) → Tried (lies b rom ram (access_of false n p)) false p (read_part n at b rom ram p)
  unfolding read_part
  part_tried n at p = go (inside 0 (length rom) p n) (inside b.base (length ram) p n)
    where
      go : (t u : Bool) → Tried (t || u) false p (cond t (Ok (at rom p)) (cond u (Ok (at ram (p - b.base))) (Err (ReadOutside p))))
      go true u = found refl
      go false true = found refl
      go false false = outside refl

  single_read : (n p : ℕ) {g : Result ℕ Refusal} → Tried (lies b rom ram (access_of false n p)) false p g → ReadView (access_of false n p ∷ []) g
  single_read n p (found e) = all_read (more e none)
  single_read n p (outside e) = one_out (here e)

  double_read : (p q : ℕ) {g h : Result ℕ Refusal} → Tried (lies b rom ram (access_of false 2 p)) false p g → Tried (lies b rom ram (access_of false 2 q)) false q h
      → ReadView (access_of false 2 p ∷ access_of false 2 q ∷ []) (joined g h)
  unfolding joined
  double_read p q (found e) (found f) = all_read (more e (more f none))
  double_read p q (found e) (outside f) = one_out (there e (here f))
  double_read p q (outside e) u = one_out (here e)

  read_view : (w : Width) (a : ℕ) → ReadView (made_at Load w a) (read_of w b rom ram a)
  unfolding made_at accesses_at read_of read_long
  read_view Byte a = single_read 1 (address a) (part_tried 1 _ (address a))
  read_view Word a = single_read 2 (even_address a) (part_tried 2 _ (even_address a))
  read_view Long a = double_read (even_address a) (second_address a) (part_tried 2 _ (even_address a)) (part_tried 2 _ (second_address a))

  room_tried : (n p : ℕ) → Room (lies b rom ram (access_of true n p)) p (room n b ram p)
  room_tried n p = go (inside b.base (length ram) p n)
    where
      go : (t : Bool) → Room t p (cond t (Ok tt) (Err (WriteOutside p)))
      go true = fits refl
      go false = full refl

  single_room : (n p : ℕ) {g : Result (Unit {0}) Refusal} → Room (lies b rom ram (access_of true n p)) p g → WriteView (access_of true n p ∷ []) g
  single_room n p (fits e) = all_stored (more e none)
  single_room n p (full e) = none_stored (here e)

  double_room : (p q : ℕ) {g h : Result (Unit {0}) Refusal} → Room (lies b rom ram (access_of true 2 p)) p g → Room (lies b rom ram (access_of true 2 q)) q h
      → WriteView (access_of true 2 p ∷ access_of true 2 q ∷ []) (both g h)
  unfolding both
  double_room p q (fits e) (fits f) = all_stored (more e (more f none))
  double_room p q (fits e) (full f) = none_stored (there e (here f))
  double_room p q (full e) u = none_stored (here e)

  put_is : (xs : List Access) (p : Result (Unit {0}) Refusal) (m : List ℕ) → WriteView xs p → WriteView xs (written p ram m).put
  unfolding written
  put_is xs (Ok tt) m v = v
  put_is xs (Err f) m v = v

  write_view : (w : Width) (a x : ℕ) → WriteView (made_at Store w a) (write_of w b ram a x).put
  unfolding made_at accesses_at write_of write_part write_long
  write_view Byte a x = put_is _ _ _ (single_room 1 (address a) (room_tried 1 (address a)))
  write_view Word a x = put_is _ _ _ (single_room 2 (even_address a) (room_tried 2 (even_address a)))
  write_view Long a x = put_is _ _ _ (double_room (even_address a) (second_address a) (room_tried 2 (even_address a)) (room_tried 2 (second_address a)))

-- ---- which bytes a write reaches

not_in : (p q n : ℕ) → reached (access_of true n q) p ≡ false → q ≤ p → p < q + n → ◌≡◌ {A = Bool} true false
not_in p q n h l u = let e : reached (access_of true n q) p ≡ true = rw (le-leb q p l, lt-ltb p (q + n) u) in sym e ∙ h

byte_spared : (q p : ℕ) → reached (access_of true 1 q) p ≡ false → eqb p q ≡ false
byte_spared q p h = go (eqb p q) refl
  where
    go : (t : Bool) → eqb p q ≡ t → t ≡ false
    go false e = refl
    go true e = let k : p ≡ q = eqb-true p q e in not_in p q 1 h (omega arith) (omega arith)

word_spared : (q p : ℕ) → q % 2 ≡ 0 → reached (access_of true 2 q) p ≡ false → eqb (p / 2 * 2) q ≡ false
word_spared q p even h = go (eqb (p / 2 * 2) q) refl
  where
    go : (t : Bool) → eqb (p / 2 * 2) q ≡ t → t ≡ false
    go false e = refl
    go true e = let k : p / 2 * 2 ≡ q = eqb-true (p / 2 * 2) q e in not_in p q 2 h (omega arith) (omega arith)

spared_unreached : (w : Width) (a p : ℕ) → Spared p (made_at Store w a) → reaches w a p ≡ false
unfolding made_at accesses_at reaches
spared_unreached Byte a p s = byte_spared (address a) p (s.0 refl)
spared_unreached Word a p s = word_spared (even_address a) p (omega arith) (s.0 refl)
spared_unreached Long a p s =
    rw (word_spared (even_address a) p (omega arith) (s.0 refl), word_spared (second_address a) p (omega arith) (s.1.0 refl))

-- ---- an instruction

module _ (b : Board) (rom ram : List ℕ) (r : Registers) where
  abbrev Stays : List Access → List ℕ → Type 0
  Stays xs m = (k : ℕ) → Spared (b.base + k) xs → byte_at m k ≡ byte_at ram k

  -- what an instruction does to registers and memory, by its accesses
  data EffectView (xs : List Access) : Stepped → Type 0 where
    did_all : {q : Registers} {m : List ℕ} → AllLie b rom ram xs → Stays xs m → EffectView xs (stepped (did q) m)
    did_none : {y : Access} → FirstOut b rom ram xs y → EffectView xs (stepped (refused r (outside_of y)) ram)
    otherwise : (f : Refusal) → (number_of f ≡ 5 → ⊥) → (number_of f ≡ 6 → ⊥) → EffectView xs (stepped (refused r f) ram)

  quiet_effect : (q : Registers) → EffectView [] (stepped (did q) ram)
  quiet_effect q = did_all none (λ k s. refl)

  -- one that reads xs first
  after_reads : {xs ys : List Access} {s : Stepped} → AllLie b rom ram xs → EffectView ys s → EffectView (xs ++ ys) s
  after_reads {xs} {ys} u (did_all v t) = did_all (all_append b rom ram u v) (λ k s. t k (spared_right (b.base + k) xs ys s))
  after_reads u (did_none o) = did_none (out_right b rom ram u o)
  after_reads u (otherwise f h k) = otherwise f h k

  write_effect : (w : Width) (a x : ℕ) (q : Registers) (p : Result (Unit {0}) Refusal) → (write_of w b ram a x).put ≡ p → WriteView b rom ram (made_at Store w a) p
      → EffectView (made_at Store w a) (stepped (stored_of p r q) (write_of w b ram a x).mem)
  unfolding stored_of
  write_effect w a x q p e (all_stored u) = did_all u (λ k s. write_others w b ram a x k (spared_unreached w a (b.base + k) s))
  write_effect w a x q p e (none_stored o) = rw (write_left w b ram a x _ e) (did_none o)

  stored_effect : (w : Width) (a x : ℕ) (q : Registers) → EffectView (made_at Store w a) (stepped (stored_of (write_of w b ram a x).put r q) (write_of w b ram a x).mem)
  stored_effect w a x q = write_effect w a x q _ refl (write_view b rom ram w a x)

  load_effect : (w : Width) (d : ℕ) (xs : List Access) (raised : Registers) (g : Result ℕ Refusal) → ReadView b rom ram xs g → EffectView xs (stepped (loaded_of g w d r raised) ram)
  unfolding loaded_of
  load_effect w d xs raised g (all_read u) = did_all u (λ k s. refl)
  load_effect w d xs raised g (one_out o) = did_none o

  took_effect : (take : Take) (index : Index) (xs : List Access) (g : Result ℕ Refusal) → ReadView b rom ram xs g → EffectView xs (stepped (took_from g take index r) ram)
  unfolding took_from
  took_effect take index xs g (all_read u) = did_all u (λ k s. refl)
  took_effect take index xs g (one_out o) = did_none o

  gave_effect : (give : Give) (index : Index) (a : ℕ) (xs : List Access) (g : Result ℕ Refusal) → ReadView b rom ram xs g → EffectView (xs ++ made_at Store Byte a) (gave_to g give index a r b ram)
  unfolding gave_to
  gave_effect give index a xs g (all_read u) = after_reads u (stored_effect Byte a _ r)
  gave_effect give index a xs g (one_out o) = did_none (out_left b rom ram _ o)

  adjust_effect : (a : Option (ℕ × Bool)) (x d : ℕ) → EffectView [] (stepped (adjusted_of a x d r) ram)
  unfolding adjusted_of
  adjust_effect (Some (v, c)) x d = quiet_effect _
  adjust_effect None x d = otherwise (NoAdjustRow r.pc) (λ e. omega arith) (λ e. omega arith)

  divide_effect : (q : Option Moved) (h : Half) (d : ℕ) → EffectView [] (stepped (divided_of q h d r) ram)
  unfolding divided_of
  divide_effect (Some x) h d = quiet_effect _
  divide_effect None h d = otherwise (DivideFails r.pc) (λ e. omega arith) (λ e. omega arith)

  -- what a step at an instruction comes to, by its accesses
  data Honest (xs : List Access) : After → Type 0 where
    done : {q : Registers} {n : ℕ} {m : List ℕ} → AllLie b rom ram xs → Stays xs m → Honest xs (after (answered q n (Ok tt)) m)
    failed : {y : Access} → FirstOut b rom ram xs y → Honest xs (after (stays r (outside_of y)) ram)
    other : (f : Refusal) → (number_of f ≡ 5 → ⊥) → (number_of f ≡ 6 → ⊥) → Honest xs (after (stays r f) ram)

  finished : {xs : List Access} {s : Stepped} (p n : ℕ) → EffectView xs s → Honest xs (after (finish_of s.effect.outcome r s.effect.regs p n) s.mem)
  unfolding finish_of
  finished p n (did_all u t) = done u t
  finished p n (did_none o) = failed o
  finished p n (otherwise f h k) = other f h k

  carried : {xs ys : List Access} (g : Result ℕ Refusal) (i : Instruction) (next : ℕ) → ReadView b rom ram xs g → EffectView ys (effect_of next r b rom ram i)
      → Honest (xs ++ ys) (carry_of g i next r b rom ram)
  unfolding carry_of
  carried g i next (all_read u) v = finished _ _ (after_reads u v)
  carried g i next (one_out o) v = failed (out_left b rom ram _ o)

  -- what finds no target in memory, and what does
  onward : (i : Instruction) (n p : ℕ) → follow_of r b rom ram (goes_of i) (next_of r.pc n) ≡ Ok p
      → EffectView (made_of r i) (effect_of (next_of r.pc n) r b rom ram i) → Honest (made_of r i) (obey_of i n r b rom ram)
  unfolding obey_of carry_of
  onward i n p e v = rw e (finished p (states_at b.site r i) v)

  through : (i : Instruction) (n : ℕ) {xs ys : List Access} (g : Result ℕ Refusal) → follow_of r b rom ram (goes_of i) (next_of r.pc n) ≡ g → ReadView b rom ram xs g
      → EffectView ys (effect_of (next_of r.pc n) r b rom ram i) → made_of r i ≡ xs ++ ys → Honest (made_of r i) (obey_of i n r b rom ram)
  unfolding obey_of
  through i n g e u v m = rw (e, m) (carried g i (next_of r.pc n) u v)

  alone : {xs : List Access} {s : Stepped} → EffectView xs s → EffectView (xs ++ []) s
  alone v = rw append-nil v

  honest : (i : Instruction) (n : ℕ) → Honest (made_of r i) (obey_of i n r b rom ram)
  unfolding aim_of follow_of effect_of transfer_of load_of store_of push_of decimal_of divide_of takes_of takes_at gives_of gives_at address_of step_over
  honest Nop n = onward Nop n _ refl (quiet_effect _)
  honest (Stc d) n = onward (Stc d) n _ refl (quiet_effect _)
  honest (LdcReg s) n = onward (LdcReg s) n _ refl (quiet_effect _)
  honest (Ccr change v) n = onward (Ccr change v) n _ refl (quiet_effect _)
  honest (Alu op w s d) n = onward (Alu op w s d) n _ refl (quiet_effect _)
  honest (IncDec way w by d) n = onward (IncDec way w by d) n _ refl (quiet_effect _)
  honest (AddsSubs way by e) n = onward (AddsSubs way by e) n _ refl (quiet_effect _)
  honest (Decimal way d) n = onward (Decimal way d) n _ refl (adjust_effect _ _ d)
  honest (Shift turn w d) n = onward (Shift turn w d) n _ refl (quiet_effect _)
  honest (Unary single w d) n = onward (Unary single w d) n _ refl (quiet_effect _)
  honest (Multiply sign h s d) n = onward (Multiply sign h s d) n _ refl (quiet_effect _)
  honest (Divide sign h s d) n = onward (Divide sign h s d) n _ refl (divide_effect _ h d)
  honest (Takes take index (InPart d)) n = onward (Takes take index (InPart d)) n _ refl (quiet_effect _)
  honest (Takes take index (AtEr e)) n = onward (Takes take index (AtEr e)) n _ refl (alone (took_effect take index _ _ (read_view b rom ram Byte _)))
  honest (Takes take index (AtAbs a)) n = onward (Takes take index (AtAbs a)) n _ refl (alone (took_effect take index _ _ (read_view b rom ram Byte _)))
  honest (Gives give index (InPart d)) n = onward (Gives give index (InPart d)) n _ refl (quiet_effect _)
  honest (Gives give index (AtEr e)) n = onward (Gives give index (AtEr e)) n _ refl (rw append-nil (gave_effect give index _ _ _ (read_view b rom ram Byte _)))
  honest (Gives give index (AtAbs a)) n = onward (Gives give index (AtAbs a)) n _ refl (rw append-nil (gave_effect give index _ _ _ (read_view b rom ram Byte _)))
  honest (Move Load w p d) n = onward (Move Load w p d) n _ refl (alone (load_effect w d _ _ _ (read_view b rom ram w _)))
  honest (Move Store w p d) n = onward (Move Store w p d) n _ refl (alone (stored_effect w _ _ _))
  honest (Bcc c reach) n = onward (Bcc c reach) n _ refl (quiet_effect _)
  honest (Jmp (ByReg e)) n = onward (Jmp (ByReg e)) n _ refl (quiet_effect _)
  honest (Jmp (Direct a)) n = onward (Jmp (Direct a)) n _ refl (quiet_effect _)
  honest (Jmp (Vector a)) n = through (Jmp (Vector a)) n _ refl (read_view b rom ram Long a) (quiet_effect r) refl
  honest (Bsr reach) n = onward (Bsr reach) n _ refl (alone (stored_effect Long _ _ _))
  honest (Jsr (ByReg e)) n = onward (Jsr (ByReg e)) n _ refl (alone (stored_effect Long _ _ _))
  honest (Jsr (Direct a)) n = onward (Jsr (Direct a)) n _ refl (alone (stored_effect Long _ _ _))
  honest (Jsr (Vector a)) n = through (Jsr (Vector a)) n _ refl (read_view b rom ram Long a) (alone (stored_effect Long _ _ _)) refl
  honest Rts n = through Rts n _ refl (read_view b rom ram Long _) (quiet_effect _) refl

  done_lies : {xs : List Access} {a : After} → Honest xs a → a.answer.outcome ≡ Ok tt → AllLie b rom ram xs
  done_lies (done u t) e = u
  done_lies (failed o) e = let z : ◌≡◌ {A = ℕ} 0 1 = cc in absurd (omega arith)
  done_lies (other f h k) e = let z : ◌≡◌ {A = ℕ} 0 1 = cc in absurd (omega arith)

  honest_stays : {xs : List Access} {a : After} → Honest xs a → Stays xs a.mem
  honest_stays (done u t) = t
  honest_stays (failed o) = λ k s. refl
  honest_stays (other f h k) = λ k s. refl

  -- ---- a step

  at_honest : {i : Instruction} {n : ℕ} → At (Ok (i, n)) b rom ram r → Honest (made_of r i) (step_of b rom ram r)
  unfolding act_of
  at_honest {i} {n} h = rw (at_step h) (honest i n)

  -- each entry of the list lies inside
  pub list_lies : AllLie b rom ram (list_of b rom ram r)
  unfolding list_of listed
  list_lies = go _ refl
    where
      go : (o : Result (Unit {0}) Refusal) → (step_of b rom ram r).answer.outcome ≡ o → AllLie b rom ram (listed o (made_by (decode_of r.pc (drop r.pc rom)) r))
      go (Ok tt) e = let (i, n, h) = done_at b rom ram r e in rw h.is (done_lies (at_honest h) e)
      go (Err f) e = none

  -- a byte of working memory that no write of the list reaches stays
  pub list_spares : (k : ℕ) → Spared (b.base + k) (list_of b rom ram r) → byte_at (step_of b rom ram r).mem k ≡ byte_at ram k
  unfolding list_of listed
  list_spares k s = go _ refl s
    where
      go : (o : Result (Unit {0}) Refusal) → (step_of b rom ram r).answer.outcome ≡ o → Spared (b.base + k) (listed o (made_by (decode_of r.pc (drop r.pc rom)) r))
          → byte_at (step_of b rom ram r).mem k ≡ byte_at ram k
      go (Ok tt) e s = let (i, n, h) = done_at b rom ram r e in honest_stays (at_honest h) k (rw h.is at s)
      go (Err f) e s = ap (λ (a : After). byte_at a.mem k) (step_refused r b rom ram f e)

  pub told_spares : (a : StepAnswer) (ram' : List ℕ) → after a ram' ≡ step_of b rom ram r → (xs : List Access) → xs ≡ list_of b rom ram r → Spares b ram ram' xs
  told_spares a ram' s xs l k u = ap (λ (x : After). byte_at x.mem k) s ∙ list_spares k (rw l at u)

  neither : (f g : Refusal) → f ≡ g → (number_of g ≡ 5 → ⊥) → (number_of g ≡ 6 → ⊥) → (number_of f ≡ 5) ⊎ (number_of f ≡ 6) → ⊥
  neither f g z h k m = ⊎_elim (λ x. h (rw z at x)) (λ x. k (rw z at x)) m

  -- a refusal 5 or 6 names the first access of the instruction that does not lie inside
  first_named : {xs : List Access} {a : After} (f : Refusal) → Honest xs a → a.answer.outcome ≡ Err f → (number_of f ≡ 5) ⊎ (number_of f ≡ 6)
      → (y : Access) × FirstOut b rom ram xs y × (f ≡ outside_of y)
  first_named f (done u t) e n = let z : ◌≡◌ {A = ℕ} 0 1 = cc in absurd (omega arith)
  first_named f (failed {y} o) e n = (y, o, cc)
  first_named f (other g h k) e n = let z : f ≡ g = cc in absurd (neither f g z h k n)

  pub names_first : (i : Instruction) (n : ℕ) (f : Refusal) → decode_of r.pc (drop r.pc rom) ≡ Ok (i, n) → (step_of b rom ram r).answer.outcome ≡ Err f
      → (number_of f ≡ 5) ⊎ (number_of f ≡ 6) → (y : Access) × FirstOut b rom ram (made_of r i) y × (f ≡ outside_of y)
  unfolding step_of fetch_of
  names_first i n f d e m = go _ _ refl refl
    where
      go : (t u : Bool) → good_start b rom ram r ≡ t → ltb r.pc (length rom) ≡ u → (y : Access) × FirstOut b rom ram (made_of r i) y × (f ≡ outside_of y)
      go true true g l = first_named f (at_honest (record { good = g; within = l; is = d })) e m
      go true false g l = let k = rw (g, l) at e in let z : f ≡ FetchOutside r.pc = cc in absurd (neither f (FetchOutside r.pc) z (λ x. omega arith) (λ x. omega arith) m)
      go false u g l = let k = rw g at e in let z : f ≡ BadBoard = cc in absurd (neither f BadBoard z (λ x. omega arith) (λ x. omega arith) m)

-- ---- what the answer depends on

reads_left : {p : ℕ} {xs : List Access} (ys : List Access) → ReadAt p xs → ReadAt p (xs ++ ys)
reads_left ys (at_first e h) = at_first e h
reads_left ys (later s) = later (reads_left ys s)

and_left : (t u : Bool) → t && u ≡ true → t ≡ true
and_left true u e = refl
and_left false u e = e

module _ (b : Board) (rom ram ram' : List ℕ) where
  abbrev Same : List Access → Type 0
  Same xs = Alike b ram ram' xs

  alike_left : (xs ys : List Access) → Same (xs ++ ys) → Same xs
  alike_left xs ys h = record { long = h.long; same = λ k s. h.same k (reads_left ys s) }

  tail_alike : {x : Access} {xs : List Access} → Same (x ∷ xs) → Same xs
  tail_alike h = record { long = h.long; same = λ k s. h.same k (later s) }

  -- the byte j of a read that lies in working memory
  byte_same : (n p j : ℕ) {xs : List Access} → Same (access_of false n p ∷ xs) → j < n → inside b.base (length ram) p n ≡ true
      → byte_at ram' (p - b.base + j) ≡ byte_at ram (p - b.base + j)
  unfolding inside
  byte_same n p j h l e =
      let u : b.base ≤ p = leb-true b.base p (and_left _ _ e) in
      let k = p - b.base + j in
      h.same k (at_first refl (rw (le-leb p (b.base + k) (omega arith), lt-ltb (b.base + k) (p + n) (omega arith))))

  part_alike : (n : ℕ) (at : List ℕ → ℕ → ℕ) (p : ℕ) → length ram' ≡ length ram → (inside b.base (length ram) p n ≡ true → at ram' (p - b.base) ≡ at ram (p - b.base))
      → read_part n at b rom ram' p ≡ read_part n at b rom ram p
  unfolding read_part
  part_alike n at p l h = rw l (go (inside 0 (length rom) p n) (inside b.base (length ram) p n) refl)
    where
      go : (t u : Bool) → inside b.base (length ram) p n ≡ u → cond t (Ok (at rom p)) (cond u (Ok (at ram' (p - b.base))) (Err (ReadOutside p)))
          ≡ cond t (Ok (at rom p)) (cond u (Ok (at ram (p - b.base))) (Err (ReadOutside p)))
      go true u e = refl
      go false true e = rw (h e)
      go false false e = refl

  byte_alike : (p : ℕ) {xs : List Access} → Same (access_of false 1 p ∷ xs) → read_part 1 byte_at b rom ram' p ≡ read_part 1 byte_at b rom ram p
  byte_alike p h =
      part_alike 1 byte_at p h.long
      (λ e. let z : p - b.base + 0 ≡ p - b.base = omega arith in rw z at (byte_same 1 p 0 h (omega arith) e))

  word_alike : (p : ℕ) {xs : List Access} → Same (access_of false 2 p ∷ xs) → read_part 2 word_at b rom ram' p ≡ read_part 2 word_at b rom ram p
  word_alike p h =
      part_alike 2 word_at p h.long
      (λ e.
      let z : p - b.base + 0 ≡ p - b.base = omega arith in
      let upper : byte_at ram' (p - b.base) ≡ byte_at ram (p - b.base) = rw z at (byte_same 2 p 0 h (omega arith) e) in
      rw (upper, byte_same 2 p 1 h (omega arith) e))

  read_alike : (w : Width) (a : ℕ) → Same (made_at Load w a) → read_of w b rom ram' a ≡ read_of w b rom ram a
  unfolding made_at accesses_at read_of read_long
  read_alike Byte a h = byte_alike (address a) h
  read_alike Word a h = word_alike (even_address a) h
  read_alike Long a h = rw (word_alike (even_address a) h, word_alike (second_address a) (tail_alike h))

  put_of : (p : Result (Unit {0}) Refusal) (m m' : List ℕ) → (written p m m').put ≡ p
  unfolding written
  put_of (Ok tt) m m' = refl
  put_of (Err f) m m' = refl

  -- whether there is room depends on the length alone
  put_alike : (w : Width) (a x : ℕ) → length ram' ≡ length ram → (write_of w b ram' a x).put ≡ (write_of w b ram a x).put
  unfolding write_of write_part write_long
  put_alike Byte a x l =
      let e : room 1 b ram' (address a) ≡ room 1 b ram (address a) = rw l in
      put_of (room 1 b ram' (address a)) ram' _ ∙ e ∙ sym (put_of (room 1 b ram (address a)) ram _)
  put_alike Word a x l =
      let e : room 2 b ram' (even_address a) ≡ room 2 b ram (even_address a) = rw l in
      put_of (room 2 b ram' (even_address a)) ram' _ ∙ e ∙ sym (put_of (room 2 b ram (even_address a)) ram _)
  put_alike Long a x l =
      let p = even_address a in
      let q = second_address a in
      let e : both (room 2 b ram' p) (room 2 b ram' q) ≡ both (room 2 b ram p) (room 2 b ram q) = rw l in
      put_of (both (room 2 b ram' p) (room 2 b ram' q)) ram' _ ∙ e ∙ sym (put_of (both (room 2 b ram p) (room 2 b ram q)) ram _)

  module _ (r : Registers) where
    gave_alike : (g : Result ℕ Refusal) (give : Give) (index : Index) (a : ℕ) → length ram' ≡ length ram
        → (gave_to g give index a r b ram').effect ≡ (gave_to g give index a r b ram).effect
    unfolding gave_to
    gave_alike (Ok x) give index a l = rw (put_alike Byte a _ l)
    gave_alike (Err f) give index a l = refl

    carry_alike : (g : Result ℕ Refusal) (i : Instruction) (next : ℕ) → (effect_of next r b rom ram' i).effect ≡ (effect_of next r b rom ram i).effect
        → (carry_of g i next r b rom ram').answer ≡ (carry_of g i next r b rom ram).answer
    unfolding carry_of
    carry_alike (Ok p) i next e = ap (λ (x : Effect). finish_of x.outcome r x.regs p (states_at b.site r i)) e
    carry_alike (Err f) i next e = refl

    -- by where it goes, and by what it does
    alike : (i : Instruction) (n : ℕ) → follow_of r b rom ram' (goes_of i) (next_of r.pc n) ≡ follow_of r b rom ram (goes_of i) (next_of r.pc n)
        → (effect_of (next_of r.pc n) r b rom ram' i).effect ≡ (effect_of (next_of r.pc n) r b rom ram i).effect
        → (obey_of i n r b rom ram').answer ≡ (obey_of i n r b rom ram).answer
    unfolding obey_of
    alike i n f e = rw f (carry_alike _ i (next_of r.pc n) e)

    obey_alike : (i : Instruction) (n : ℕ) → Same (made_of r i) → (obey_of i n r b rom ram').answer ≡ (obey_of i n r b rom ram).answer
    unfolding follow_of aim_of effect_of transfer_of load_of store_of push_of takes_of takes_at gives_of gives_at address_of step_over
    obey_alike Nop n h = alike Nop n refl refl
    obey_alike (Stc d) n h = alike (Stc d) n refl refl
    obey_alike (LdcReg s) n h = alike (LdcReg s) n refl refl
    obey_alike (Ccr change v) n h = alike (Ccr change v) n refl refl
    obey_alike (Alu op w s d) n h = alike (Alu op w s d) n refl refl
    obey_alike (IncDec way w by d) n h = alike (IncDec way w by d) n refl refl
    obey_alike (AddsSubs way by e) n h = alike (AddsSubs way by e) n refl refl
    obey_alike (Decimal way d) n h = alike (Decimal way d) n refl refl
    obey_alike (Shift turn w d) n h = alike (Shift turn w d) n refl refl
    obey_alike (Unary single w d) n h = alike (Unary single w d) n refl refl
    obey_alike (Multiply sign k s d) n h = alike (Multiply sign k s d) n refl refl
    obey_alike (Divide sign k s d) n h = alike (Divide sign k s d) n refl refl
    obey_alike (Takes take index (InPart d)) n h = alike (Takes take index (InPart d)) n refl refl
    obey_alike (Takes take index (AtEr e)) n h = alike (Takes take index (AtEr e)) n refl (rw (read_alike Byte _ (alike_left _ _ h)))
    obey_alike (Takes take index (AtAbs a)) n h = alike (Takes take index (AtAbs a)) n refl (rw (read_alike Byte _ (alike_left _ _ h)))
    obey_alike (Gives give index (InPart d)) n h = alike (Gives give index (InPart d)) n refl refl
    obey_alike (Gives give index (AtEr e)) n h = alike (Gives give index (AtEr e)) n refl (rw (read_alike Byte _ (alike_left _ _ h)) (gave_alike _ give index _ h.long))
    obey_alike (Gives give index (AtAbs a)) n h = alike (Gives give index (AtAbs a)) n refl (rw (read_alike Byte _ (alike_left _ _ h)) (gave_alike _ give index _ h.long))
    obey_alike (Move Load w p d) n h = alike (Move Load w p d) n refl (rw (read_alike w _ (alike_left _ _ h)))
    obey_alike (Move Store w p d) n h = alike (Move Store w p d) n refl (rw (put_alike w _ _ h.long))
    obey_alike (Bcc c reach) n h = alike (Bcc c reach) n refl refl
    obey_alike (Jmp (ByReg e)) n h = alike (Jmp (ByReg e)) n refl refl
    obey_alike (Jmp (Direct a)) n h = alike (Jmp (Direct a)) n refl refl
    obey_alike (Jmp (Vector a)) n h = alike (Jmp (Vector a)) n (read_alike Long _ (alike_left _ _ h)) refl
    obey_alike (Bsr reach) n h = alike (Bsr reach) n refl (rw (put_alike Long _ _ h.long))
    obey_alike (Jsr (ByReg e)) n h = alike (Jsr (ByReg e)) n refl (rw (put_alike Long _ _ h.long))
    obey_alike (Jsr (Direct a)) n h = alike (Jsr (Direct a)) n refl (rw (put_alike Long _ _ h.long))
    obey_alike (Jsr (Vector a)) n h = alike (Jsr (Vector a)) n (read_alike Long _ (alike_left _ _ h)) (rw (put_alike Long _ _ h.long))
    obey_alike Rts n h = alike Rts n (read_alike Long _ (alike_left _ _ h)) refl

    -- Where a step is done, another working memory that is alike where a read of its list reaches gives the same answer: registers, states, and that it is done.
    -- So the list names no read too few.
    pub list_suffices : (step_of b rom ram r).answer.outcome ≡ Ok tt → Alike b ram ram' (list_of b rom ram r) → (step_of b rom ram' r).answer ≡ (step_of b rom ram r).answer
    unfolding act_of listed
    list_suffices e s =
        let (i, n, h) = done_at b rom ram r e in
        let l : list_of b rom ram r ≡ made_of r i = at_list h ∙ rw (rw (at_step h) at e) in
        let k : At (Ok (i, n)) b rom ram' r = record { good = rw s.long h.good; within = h.within; is = h.is } in
        rw (at_step h, at_step k) (obey_alike i n (rw l at s))
