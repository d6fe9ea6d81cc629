-- A replay is the repeated step, and each record that agreed describes the moment before its step. Assumes nothing.
use Rattle.std.specs.Prelude.{Result, Ok, Err}
use Prim.Native.Nat.{ℕ, suc, ◌+◌, ◌*◌, ◌%◌, ◌^◌, ◌≤◌, ◌<◌}
use mathlib.Core.Path.{◌≡◌, refl, sym, ◌∙◌, ap, subst}
use mathlib.Core.Bool.{Bool, true, false, cond, ◌&&◌}
use mathlib.Core.List.{List, [], ◌∷◌}
use native.Mathlib.Omega.{arith}
use borrow.Author.Tests.{eqb-true, le-leb, ltb-true, ltb-false, ne_eqb}
use lib.Dec.{eqb, ltb, leb}
use lib.ListN.{length, get_or, take, drop}
use Rattle.refusal.specs.declared.Refusal.{Refusal}
use Rattle.refusal.specs.declared.Refusal.TheVariants.{BadBoard, BadVersion, BudgetTooLarge, BadLength}
use Rattle.registers.specs.Condition.{byte_of}
use Rattle.registers.specs.declared.Registers.{Registers}
use Rattle.memory.specs.declared.Board.{Board}
use Rattle.machine.specs.Machine.{Steps, none, more}
use Rattle.step.specs.Step.{After, after, answered, good_start, step_of}
use Rattle.step.specs.Processor.{State, processor}
use Rattle.step.proofs.Laws.{step_refused, step_states}
use Rattle.replay.specs.declared.Part.{Part}
use Rattle.replay.specs.declared.Report.{Report}
use Rattle.replay.specs.declared.Report.TheVariants.{Halted}
use Rattle.replay.specs.declared.Stage.{Stage}
use Rattle.replay.specs.declared.Stage.TheVariants.{Version, Records, Told}
use Rattle.replay.specs.declared.Standing.{Standing}
use Rattle.replay.specs.Replay as d
use Rattle.replay.specs.Replay.{Moment, moment, nothing, longer, grown, standing, staged, begins, went, taken, compared, held, first_of, stage_taken, fed, begun, ended_of, replay_of}
use Rattle.replay.specs.Followed.{state, Any, Describes, Followed}
use Rattle.replay.proofs.Bytes.{told_stays}
use Rattle.replay.proofs.Records.{whole_of, eleven}

abbrev pub Small : List ℕ → Type 0
Small xs = (i : ℕ) → get_or xs i 0 < 256

-- ---- bytes that complete no record

grown_by : (p : Part) (x : ℕ) (t u v : Bool) → ltb p.count 2 ≡ t → ltb p.count 6 ≡ u → ltb p.count 7 ≡ v → (grown p x).count ≡ d.more p.count
unfolding grown
grown_by p x true u v e f g = rw e
grown_by p x false true v e f g = rw (e, f)
grown_by p x false false true e f g = rw (e, f, g)
grown_by p x false false false e f g = rw (e, f, g)

grown_count : (p : Part) (x : ℕ) → (grown p x).count ≡ d.more p.count
grown_count p x = grown_by p x _ _ _ refl refl refl

module _ (b : Board) (rom : List ℕ) where
  -- a moment with the registers, counts and memory of another
  record Same (k : Standing) (ram : List ℕ) (a : Moment) : Type 0 where
    regs_same : a.replay.regs ≡ k.regs
    steps_same : a.replay.steps ≡ k.steps
    states_same : a.replay.states ≡ k.states
    mem_same : a.mem ≡ ram

  told_same : (k : Standing) (ram : List ℕ) (t : Report) (xs : List ℕ) → Same k ram (fed b rom (moment (staged k (Told t)) ram) xs)
  told_same k ram t xs =
      rw (told_stays b rom (moment (staged k (Told t)) ram) xs refl) (record { regs_same = refl; steps_same = refl; states_same = refl; mem_same = refl })

  -- the first byte beyond 1,000,000 steps
  over : (k : Standing) (ram : List ℕ) (x : ℕ) (xs : List ℕ) → leb 1000000 k.steps ≡ true → Same k ram (fed b rom (moment (staged k (Records nothing)) ram) (x ∷ xs))
  unfolding fed stage_taken
  over k ram x xs e = rw e (told_same k ram (Halted BudgetTooLarge) xs)

  -- one byte more, with what comes of the rest
  module _ (p : Part) (x : ℕ) (xs : List ℕ) (k : Standing) (ram : List ℕ) (few : (grown p x).count ≤ 10) (rest : Same k ram (fed b rom (moment (staged k (Records (grown p x))) ram) xs)) where
    second : (t : Bool) → eqb (grown p x).count 2 ≡ t → (u : Bool) → eqb (grown p x).size 9 ≡ u → Same k ram (fed b rom (held b rom (grown p x) (staged k (Records p)) ram) xs)
    unfolding held
    second true f true g = rw (f, g) rest
    second true f false g = rw (f, g) (told_same k ram (Halted (BadLength (begins k.steps))) xs)
    second false f u g = let z : (grown p x).count ≡ 11 → ⊥ = λ h. absurd (omega arith) in rw (f, ne_eqb _ _ z) rest

    first : (t : Bool) → (eqb p.count 0 && leb 1000000 k.steps) ≡ t → Same k ram (fed b rom (moment (staged k (Records p)) ram) (x ∷ xs))
    unfolding fed stage_taken
    first true e = rw e (told_same k ram (Halted BudgetTooLarge) xs)
    first false e = rw e (second _ refl _ refl)

  short : (p : Part) (xs : List ℕ) (k : Standing) (ram : List ℕ) → p.count + length xs ≤ 10 → Same k ram (fed b rom (moment (staged k (Records p)) ram) xs)
  unfolding fed
  short p [] k ram l = record { regs_same = refl; steps_same = refl; states_same = refl; mem_same = refl }
  short p (x ∷ xs) k ram l =
      let n = grown_count p x in
      let m : (grown p x).count + length xs ≤ 10 = omega arith in
      first p x xs k ram (omega arith) (short (grown p x) xs k ram m) _ refl

  -- ---- whole records

  -- from the state s, with n₀ steps and m₀ states behind it, over the bytes xs to a
  record From (s : State) (n₀ m₀ : ℕ) (xs : List ℕ) (a : Moment) : Type 0 where
    c : ℕ
    m : ℕ
    count : a.replay.steps ≡ n₀ + c
    sum : a.replay.states ≡ m₀ + m
    led : Steps (processor b rom) Any s c m (state a.replay.regs a.mem)
    each : (i k : ℕ) (t : State) → i < c → Steps (processor b rom) Any s i k t → Describes (take 11 (drop (i * 11) xs)) t.regs (m₀ + k)

  at_once : (k : Standing) (ram : List ℕ) (xs : List ℕ) (a : Moment) → Same k ram a → From (state k.regs ram) k.steps k.states xs a
  at_once k ram xs a e =
      record {
        c = 0;
        m = 0;
        count = omega (arith, e.steps_same);
        sum = omega (arith, e.states_same);
        led = rw (e.regs_same, e.mem_same) none;
        each = λ i n t l w. absurd (omega arith);
      }

  -- a record that describes the state, a step, and then what follows
  module _ (s t : State) (n n₀ m₀ : ℕ) (h xs : List ℕ) (does : (processor b rom).Does s t n) (described : Describes (take 11 h) s.regs m₀)
      (tail : (i : ℕ) → drop ((i + 1) * 11) h ≡ drop (i * 11) xs) where
    next : {c : ℕ} → ((i k : ℕ) (u : State) → i < c → Steps (processor b rom) Any t i k u → Describes (take 11 (drop (i * 11) xs)) u.regs (m₀ + n + k))
        → {i k : ℕ} {u : State} → i < c + 1 → Steps (processor b rom) Any s i k u → Describes (take 11 (drop (i * 11) h)) u.regs (m₀ + k)
    next each l none = let z : m₀ + 0 ≡ m₀ = omega arith in rw z described
    next {c} each {u = u} l (more {t = t'} {n = n'} {c = i} {m = k} through does' rest) =
        let same : after (answered t'.regs n' (Ok tt)) t'.mem ≡ after (answered t.regs n (Ok tt)) t.mem = sym does' ∙ does in
        let p : t' ≡ t = ap (λ (a : After). state a.answer.regs a.mem) same in
        let o : n' ≡ n = ap (λ (a : After). a.answer.states) same in
        let w = subst (λ (x : State). Steps (processor b rom) Any x i k u) p rest in
        let z : m₀ + (n' + k) ≡ m₀ + n + k = omega arith in
        rw (tail i, z) (each i k u (omega arith) w)

    one_more : (a : Moment) → From t (n₀ + 1) (m₀ + n) xs a → From s n₀ m₀ h a
    one_more a f =
        record {
          c = f.c + 1;
          m = n + f.m;
          count = omega (arith, f.count);
          sum = omega (arith, f.sum);
          led = more tt does f.led;
          each = λ i k u l w. next f.each l w;
        }

  -- after a step that is done there are as many steps and states more
  module _ (k : Standing) (ram : List ℕ) (few : k.steps < 1000000) (sum : k.states ≤ k.steps * 32) where
    abbrev did : After
    did = step_of b rom ram k.regs

    abbrev on : Standing
    on = standing did.answer.regs (d.more k.steps) (k.states % 2 ^ 56 + did.answer.states) (Records nothing)

    on_steps : on.steps ≡ k.steps + 1
    on_steps = omega arith

    on_states : on.states ≡ k.states + did.answer.states
    on_states = omega arith

    on_sum : on.states ≤ on.steps * 32
    on_sum = omega (arith, step_states k.regs b rom ram, on_steps, on_states)

    module _ (h xs : List ℕ) (described : Describes (take 11 h) k.regs k.states) (tail : (i : ℕ) → drop ((i + 1) * 11) h ≡ drop (i * 11) xs)
        (rest : From (state did.answer.regs did.mem) on.steps on.states xs (fed b rom (moment on did.mem) xs)) where
      stepped : (o : Result (Unit {0}) Refusal) → did.answer.outcome ≡ o → From (state k.regs ram) k.steps k.states h (fed b rom (went o did k) xs)
      unfolding went
      stepped (Ok tt) e =
          let does : did ≡ after (answered did.answer.regs did.answer.states (Ok tt)) did.mem = ap (λ (o : Result (Unit {0}) Refusal). after (answered did.answer.regs did.answer.states o) did.mem) e in
          let to : List ℕ → Moment = λ l. fed b rom (moment on did.mem) l in
          let counted = subst (λ (n : ℕ). From (state did.answer.regs did.mem) n (k.states + did.answer.states) xs (to xs)) on_steps (subst (λ (m : ℕ). From (state did.answer.regs did.mem) on.steps m xs (to xs)) on_states rest) in
          one_more (state k.regs ram) (state did.answer.regs did.mem) did.answer.states k.steps k.states h xs does described tail _ counted
      stepped (Err f) e =
          let z = step_refused k.regs b rom ram f e in
          let p : did.answer.regs ≡ k.regs = ap (λ (a : After). a.answer.regs) z in
          let q : did.mem ≡ ram = ap (λ (a : After). a.mem) z in
          rw (p, q) (at_once k ram h _ (told_same k ram (Halted f) xs))

  -- ---- a record of eleven bytes

  module _ (k : Standing) (ram : List ℕ) (few : k.steps < 1000000) (sum : k.states ≤ k.steps * 32) (x0 x1 x2 x3 x4 x5 x6 x7 x8 x9 x10 : ℕ) (xs : List ℕ)
      (small : Small (x0 ∷ x1 ∷ x2 ∷ x3 ∷ x4 ∷ x5 ∷ x6 ∷ x7 ∷ x8 ∷ x9 ∷ x10 ∷ xs))
      (rest : From (state (did k ram few sum).answer.regs (did k ram few sum).mem) (on k ram few sum).steps (on k ram few sum).states xs (fed b rom (moment (on k ram few sum) (did k ram few sum).mem) xs)) where
    abbrev bytes : List ℕ
    bytes = x0 ∷ x1 ∷ x2 ∷ x3 ∷ x4 ∷ x5 ∷ x6 ∷ x7 ∷ x8 ∷ x9 ∷ x10 ∷ xs

    abbrev p : Part
    p = whole_of x0 x1 x2 x3 x4 x5 x6 x7 x8 x9 x10

    tail : (i : ℕ) → drop ((i + 1) * 11) bytes ≡ drop (i * 11) xs
    tail i = let z : (i + 1) * 11 ≡ suc (suc (suc (suc (suc (suc (suc (suc (suc (suc (suc (i * 11))))))))))) = omega arith in rw z

    describes : p.size ≡ 9 → p.pc ≡ k.regs.pc → p.condition ≡ byte_of k.regs.condition → p.states ≡ k.states → Describes (take 11 bytes) k.regs k.states
    describes a e f g =
        record {
          whole = refl;
          length_nine = omega (arith, small 0, small 1);
          same_pc = omega (arith, small 2, small 3, small 4, small 5);
          same_condition = f;
          same_states = omega (arith, small 7, small 8, small 9, small 10);
        }

    differs : (t : Report) → From (state k.regs ram) k.steps k.states bytes (fed b rom (moment (staged k (Told t)) ram) xs)
    differs t = at_once k ram bytes _ (told_same k ram t xs)

    compared_by : p.size ≡ 9 → (t : Bool) → eqb p.pc k.regs.pc ≡ t → (u : Bool) → eqb p.condition (byte_of k.regs.condition) ≡ u → (v : Bool) → eqb p.states k.states ≡ v
        → From (state k.regs ram) k.steps k.states bytes (fed b rom (compared b rom p k ram) xs)
    unfolding compared taken
    compared_by n false e u f v g = rw e (differs _)
    compared_by n true e false f v g = rw (e, f) (differs _)
    compared_by n true e true f false g = rw (e, f, g) (differs _)
    compared_by n true e true f true g =
        rw (e, f, g) (stepped k ram few sum bytes xs (describes n (eqb-true _ _ e) (eqb-true _ _ f) (eqb-true _ _ g)) tail rest _ refl)

    sized : (t : Bool) → eqb p.size 9 ≡ t
        → From (state k.regs ram) k.steps k.states bytes (cond t (fed b rom (compared b rom p k ram) xs) (moment (staged k (Told (Halted (BadLength (begins k.steps))))) ram))
    sized true e = compared_by (eqb-true _ _ e) _ refl _ refl _ refl
    sized false e = at_once k ram bytes _ (record { regs_same = refl; steps_same = refl; states_same = refl; mem_same = refl })

    one_record : From (state k.regs ram) k.steps k.states bytes (fed b rom (moment (staged k (Records nothing)) ram) bytes)
    one_record = rw (eleven b rom ram k few x0 x1 x2 x3 x4 x5 x6 x7 x8 x9 x10 xs) (sized _ refl)

  -- ---- all of them

  -- a record, if there are fewer than 1,000,000 steps
  within : (k : Standing) (ram : List ℕ) (sum : k.states ≤ k.steps * 32) (x0 x1 x2 x3 x4 x5 x6 x7 x8 x9 x10 : ℕ) (xs : List ℕ) → Small (x0 ∷ x1 ∷ x2 ∷ x3 ∷ x4 ∷ x5 ∷ x6 ∷ x7 ∷ x8 ∷ x9 ∷ x10 ∷ xs)
      → ((few : k.steps < 1000000)
      → From (state (did k ram few sum).answer.regs (did k ram few sum).mem) (on k ram few sum).steps (on k ram few sum).states xs (fed b rom (moment (on k ram few sum) (did k ram few sum).mem) xs))
      → (t : Bool) → ltb k.steps 1000000 ≡ t → From (state k.regs ram) k.steps k.states (x0 ∷ x1 ∷ x2 ∷ x3 ∷ x4 ∷ x5 ∷ x6 ∷ x7 ∷ x8 ∷ x9 ∷ x10 ∷ xs) (fed b rom (moment (staged k (Records nothing)) ram) (x0 ∷ x1 ∷ x2 ∷ x3 ∷ x4 ∷ x5 ∷ x6 ∷ x7 ∷ x8 ∷ x9 ∷ x10 ∷ xs))
  within k ram sum x0 x1 x2 x3 x4 x5 x6 x7 x8 x9 x10 xs w rest true e = let few = ltb-true _ _ e in one_record k ram few sum x0 x1 x2 x3 x4 x5 x6 x7 x8 x9 x10 xs w (rest few)
  within k ram sum x0 x1 x2 x3 x4 x5 x6 x7 x8 x9 x10 xs w rest false e = at_once k ram _ _ (over k ram x0 _ (le-leb 1000000 k.steps (ltb-false k.steps 1000000 e)))

  from : (xs : List ℕ) (k : Standing) (ram : List ℕ) → k.states ≤ k.steps * 32 → Small xs
      → From (state k.regs ram) k.steps k.states xs (fed b rom (moment (staged k (Records nothing)) ram) xs)
  from [] k ram sum w = at_once k ram _ _ (short nothing _ k ram (omega arith))
  from (x0 ∷ []) k ram sum w = at_once k ram _ _ (short nothing _ k ram (omega arith))
  from (x0 ∷ x1 ∷ []) k ram sum w = at_once k ram _ _ (short nothing _ k ram (omega arith))
  from (x0 ∷ x1 ∷ x2 ∷ []) k ram sum w = at_once k ram _ _ (short nothing _ k ram (omega arith))
  from (x0 ∷ x1 ∷ x2 ∷ x3 ∷ []) k ram sum w = at_once k ram _ _ (short nothing _ k ram (omega arith))
  from (x0 ∷ x1 ∷ x2 ∷ x3 ∷ x4 ∷ []) k ram sum w = at_once k ram _ _ (short nothing _ k ram (omega arith))
  from (x0 ∷ x1 ∷ x2 ∷ x3 ∷ x4 ∷ x5 ∷ []) k ram sum w = at_once k ram _ _ (short nothing _ k ram (omega arith))
  from (x0 ∷ x1 ∷ x2 ∷ x3 ∷ x4 ∷ x5 ∷ x6 ∷ []) k ram sum w = at_once k ram _ _ (short nothing _ k ram (omega arith))
  from (x0 ∷ x1 ∷ x2 ∷ x3 ∷ x4 ∷ x5 ∷ x6 ∷ x7 ∷ []) k ram sum w = at_once k ram _ _ (short nothing _ k ram (omega arith))
  from (x0 ∷ x1 ∷ x2 ∷ x3 ∷ x4 ∷ x5 ∷ x6 ∷ x7 ∷ x8 ∷ []) k ram sum w = at_once k ram _ _ (short nothing _ k ram (omega arith))
  from (x0 ∷ x1 ∷ x2 ∷ x3 ∷ x4 ∷ x5 ∷ x6 ∷ x7 ∷ x8 ∷ x9 ∷ []) k ram sum w = at_once k ram _ _ (short nothing _ k ram (omega arith))
  from (x0 ∷ x1 ∷ x2 ∷ x3 ∷ x4 ∷ x5 ∷ x6 ∷ x7 ∷ x8 ∷ x9 ∷ x10 ∷ xs) k ram sum w =
      within k ram sum x0 x1 x2 x3 x4 x5 x6 x7 x8 x9 x10 xs w
      (λ few. from xs (on k ram few sum) (did k ram few sum).mem (on_sum k ram few sum) (λ i. w (suc (suc (suc (suc (suc (suc (suc (suc (suc (suc (suc i)))))))))))))
      _
      refl

-- ---- the recording

module _ (b : Board) (rom ram : List ℕ) (r : Registers) where
  -- nothing was done
  idle : (file : List ℕ) (g : Stage) (a : Moment) → Same b rom (standing r 0 0 g) ram a → Followed b rom ram r file (d.closed a)
  unfolding ended_of
  idle file g a e =
      record {
        led = rw (e.steps_same, e.states_same, e.regs_same, e.mem_same) none;
        each = λ i k s l w. absurd (omega (arith, e.steps_same));
      }

  recorded : (x : ℕ) (xs : List ℕ) (a : Moment) → From b rom (state r ram) 0 0 xs a → Followed b rom ram r (x ∷ xs) (d.closed a)
  unfolding ended_of
  recorded x xs a f =
      let p : a.replay.steps ≡ f.c = omega (arith, f.count) in
      let q : a.replay.states ≡ f.m = omega (arith, f.sum) in
      record {
        led = rw (p, q) f.led;
        each = λ i k s l w. let z : i * 11 + 1 ≡ suc (i * 11) = omega arith in let o : 0 + k ≡ k = omega arith in rw z (rw o at (f.each i k s (omega arith) w));
      }

  versioned : (x : ℕ) (xs : List ℕ) → Small xs → (t : Bool)
      → Followed b rom ram r (x ∷ xs) (d.closed (fed b rom (moment (standing r 0 0 (cond t (Records nothing) (Told (Halted BadVersion)))) ram) xs))
  versioned x xs w true = recorded x xs _ (from b rom xs (standing r 0 0 Version) ram (omega arith) w)
  versioned x xs w false = idle (x ∷ xs) Version _ (told_same b rom (standing r 0 0 Version) ram (Halted BadVersion) xs)

  started : (file : List ℕ) → Small file → (t : Bool)
      → Followed b rom ram r file (d.closed (fed b rom (moment (standing r 0 0 (cond t Version (Told (Halted BadBoard)))) ram) file))
  unfolding fed stage_taken first_of
  started [] w true = idle [] Version (moment (standing r 0 0 Version) ram) (record { regs_same = refl; steps_same = refl; states_same = refl; mem_same = refl })
  started (x ∷ xs) w true = versioned x xs (λ i. w (suc i)) (eqb x 1)
  started file w false = idle file Version _ (told_same b rom (standing r 0 0 Version) ram (Halted BadBoard) file)

  -- for the reader: with c records agreed, c steps with the states answered lead from the start to the registers and memory answered, and each of the records
  -- describes the moment before its step
  pub replayed_steps : (file : List ℕ) → Small file → Followed b rom ram r file (replay_of b rom ram r file)
  unfolding replay_of begun
  replayed_steps file w = started file w (good_start b rom ram r)
