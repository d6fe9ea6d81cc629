-- The promise: a run of the mode that keeps its pushed addresses, from a clear place, ends, fairly, within the place's largest total; and within any budget
-- its states are never more. Over any machine whose steps go where paths go. Each step has a state or more, so what may still come falls.
-- Assumes nothing.
use Rattle.std.specs.Prelude.{Result, Ok, Err}
use Rattle.std.proofs.Common.{◌≡◌, ℕ, zero, suc, ◌+◌, ◌-◌, ◌<◌, ◌≤◌, ◌⊎◌, List, [], ◌∷◌, length, sym, refl, subst, inl, inr, ⊎_elim, arith}
use Rattle.refusal.specs.declared.Refusal.{Refusal}
use Rattle.refusal.specs.declared.Refusal.TheVariants.{TooDeep, FetchOutside}
use Rattle.machine.specs.Machine.{Machine, elsewhere, none, more, ByData}
use Rattle.machine.specs.Keeping as Keeping
use Rattle.machine.specs.Keeping.{Keeps, keeps, Moves, went, called, came, home, at_elsewhere, last, keeping}
use Rattle.paths.specs.declared.Flow.{Flow}
use Rattle.paths.specs.declared.Flow.TheVariants.{Ends}
use Rattle.paths.specs.Paths.{Leads, Enters, count_of, deep, ends, here, stop, Clear, Largest}
use Rattle.paths.specs.Runs.{Ending, returned, stopped, left, Off, Run, returns, stops, leaves, Fair, Bounded}
use Rattle.paths.proofs.Laws.{le_or}
use Rattle.paths.proofs.Owed as Owed
use Rattle.paths.proofs.Owed.{Move, Tail, Fine, fine_here, fine_on, some_tail, back_over}
use Rattle.paths.proofs.Once.{OneStep, keeping_one, run_within}

eq_or : (a b : ℕ) → (a ≡ b) ⊎ (a ≡ b → ⊥)
eq_or a b = ⊎_elim (λ h. ⊎_elim (λ k. inl (omega arith)) (λ k. inr (λ e. omega arith)) (le_or b a)) (λ h. inr (λ e. omega arith)) (le_or a b)

-- a step at an instruction with the flow f: it returns, goes where f leads, enters what f enters and pushes where f leads, or is refused by its data. It has a
-- state at least, and never more than f says. `Kept` is what every state of a run keeps
pub data Stepped (M : Machine) (Kept : M.State → Type 0) (f : Result Flow Refusal) (s : M.State) : Type 0 where
  back_home : {t : M.State} {n m : ℕ} → M.AtReturn s → ((k : ℕ) → M.Pushes s k → ⊥) → M.Does s t n → Kept t → f ≡ Ok (Ends m) → 1 ≤ n → n ≤ m → Stepped M Kept f s
  onward : {t : M.State} {n : ℕ} → (M.AtReturn s → ⊥) → ((k : ℕ) → M.Pushes s k → ⊥) → M.Does s t n → Kept t → ((q : ℕ) → Enters f q → ⊥) → Leads f (M.pc t) → 1 ≤ n → n ≤ count_of f → Stepped M Kept f s
  entered : {t : M.State} {k n : ℕ} → (M.AtReturn s → ⊥) → M.Pushes s k → M.Does s t n → Kept t → Leads f k → Enters f (M.pc t) → 1 ≤ n → n ≤ count_of f → Stepped M Kept f s
  by_data : {r : Refusal} → M.Refuses s r → ByData r → Stepped M Kept f s

-- `Bounded` but for what it says of budgets
record Ended (M : Machine) (s : M.State) (n : ℕ) : Type 0 where
  steps : ℕ
  states : ℕ
  ending : Ending
  run : Run M s steps states ending
  fair : Fair ending
  in_states : states ≤ n

module _ (M : Machine) (O : OneStep M) (flow : ℕ → Result Flow Refusal) (len : ℕ) (outside : (p : ℕ) → len ≤ p → flow p ≡ Err (FetchOutside p)) (Kept : M.State → Type 0)
    (step : (s : M.State) → Kept s → ((r : Refusal) → flow (M.pc s) ≡ Err r → ⊥) → Stepped M Kept (flow (M.pc s)) s) where
  -- nothing that may still come has more than N states
  abbrev Owes : ℕ → ℕ → List ℕ → ℕ → Type 0
  Owes d p ks N = (m : ℕ) → Tail flow d p ks m → m ≤ N

  -- after a step, what is owed is less by its states
  lighter : {d p d' p' n : ℕ} {ks ks' : List ℕ} (N : ℕ) → Fine flow d p ks → Owes d p ks N → Move flow d p ks n d' p' ks' → Owes d' p' ks' (N - n) × (n ≤ N)
  lighter {n = n} N f o m = ((λ x t. let y = back_over flow (fine_here flow f) m t in omega (arith, y.2, o y.0 y.1)), (let x = some_tail flow len outside (fine_on flow m f) in let y = back_over flow (fine_here flow f) m x.1 in omega (arith, y.2, o y.0 y.1)))

  one_more : {s t : Keeps M} {n N : ℕ} → Off (keeping M) s → Moves M s t n → n ≤ N → Ended (keeping M) t (N - n) → Ended (keeping M) s N
  one_more {s} {t} {n} {N} o d l b = go b.run
    where
      go : {c m : ℕ} {e : Ending} → Run (keeping M) t c m e → Ended (keeping M) s N
      go r = record { steps = b.steps + 1; states = n + b.states; ending = b.ending; run = put b.run; fair = b.fair; in_states = omega (arith, b.in_states) }
        where
          put : {c m : ℕ} {e : Ending} → Run (keeping M) t c m e → Run (keeping M) s (c + 1) (n + m) e
          put (returns {c = c} {m = m} {n = k} x y z) = let e : n + m + k ≡ n + (m + k) = omega arith in subst (λ (v : ℕ). Run (keeping M) s (c + 1 + 1) v returned) e (returns (more o d x) y z)
          put (stops x y) = stops (more o d x) y
          put (leaves x y) = leaves (more o d x) y

  home_none : {x : Keeps M} → Keeping.Home M x → x.kept ≡ []
  home_none (last r) = refl

  not_home : (s : M.State) (ks : List ℕ) → (M.AtReturn s → ⊥) → Off (keeping M) (keeps s ks)
  not_home s ks o (last r) = o r

  not_last : (s : M.State) (k : ℕ) (ks : List ℕ) → Off (keeping M) (keeps s (k ∷ ks))
  not_last s k ks h = let e : ◌≡◌ {A = List ℕ} (k ∷ ks) [] = home_none h in absurd (let z : ◌≡◌ {A = ℕ} 0 1 = cc in omega arith)

  -- fuel k, levels left d, what is owed N
  abbrev Goal : ℕ → Type 0
  Goal k = (N d : ℕ) (s : M.State) (ks : List ℕ) → N ≤ k → Kept s → Fine flow d (M.pc s) ks → d + length ks ≡ 8 → Owes d (M.pc s) ks N → Ended (keeping M) (keeps s ks) N

  module _ (N : ℕ) (s : M.State) (next : (N' d : ℕ) (t : M.State) (ks : List ℕ) → N' < N → Kept t → Fine flow d (M.pc t) ks → d + length ks ≡ 8 → Owes d (M.pc t) ks N' → Ended (keeping M) (keeps t ks) N') where
    into : (d : ℕ) (ks : List ℕ) (t : M.State) (k n : ℕ) → (M.AtReturn s → ⊥) → M.Pushes s k → M.Does s t n → Kept t → Leads (flow (M.pc s)) k → Enters (flow (M.pc s)) (M.pc t) → 1 ≤ n → n ≤ count_of (flow (M.pc s))
        → Fine flow d (M.pc s) ks → d + length ks ≡ 8 → Owes d (M.pc s) ks N → Ended (keeping M) (keeps s ks) N
    into zero ks t k n nr ps does kt w e one h f len8 o = absurd (fine_here flow f (M.pc s) (here {r = TooDeep (M.pc s)} (deep (M.pc t) e)))
    into (suc d) ks t k n nr ps does kt w e one h f len8 o =
        let m : Move flow (suc d) (M.pc s) ks n d (M.pc t) (k ∷ ks) = Owed.called e w h in
        let l = lighter N f o m in
        one_more (not_home s ks nr) (called ps (omega (arith, len8)) does) l.1 (next (N - n) d t (k ∷ ks) (omega (arith, l.1)) kt (fine_on flow m f) (omega (arith, len8)) l.0)

    back : (d : ℕ) (ks : List ℕ) (t : M.State) (n m : ℕ) → M.AtReturn s → M.Does s t n → Kept t → flow (M.pc s) ≡ Ok (Ends m) → 1 ≤ n → n ≤ m
        → Fine flow d (M.pc s) ks → d + length ks ≡ 8 → Owes d (M.pc s) ks N → Ended (keeping M) (keeps s ks) N
    back d [] t n m r does kt i one h f len8 o =
        record { steps = 0 + 1; states = 0 + n; ending = returned; run = returns none (last r) (home r does); fair = tt; in_states = omega (arith, o m (Owed.last (ends i))) }
    back d (k ∷ ks) t n m r does kt i one h f len8 o = ⊎_elim same other (eq_or (M.pc t) k)
      where
        same : M.pc t ≡ k → Ended (keeping M) (keeps s (k ∷ ks)) N
        same e =
            let mv : Move flow d (M.pc s) (k ∷ ks) n (suc d) k ks = Owed.came i h in
            let l = lighter N f o mv in
            one_more (not_last s k ks) (came r does e) l.1
            (next (N - n) (suc d) t ks (omega (arith, l.1)) kt (subst (λ (p : ℕ). Fine flow (suc d) p ks) (sym e) (fine_on flow mv f)) (omega (arith, len8)) (subst (λ (p : ℕ). Owes (suc d) p ks (N - n)) (sym e) l.0))

        other : (M.pc t ≡ k → ⊥) → Ended (keeping M) (keeps s (k ∷ ks)) N
        other ne = record { steps = 0; states = 0; ending = left elsewhere; run = leaves none (at_elsewhere r does ne); fair = tt; in_states = omega arith }

    at : (d : ℕ) (ks : List ℕ) → Stepped M Kept (flow (M.pc s)) s → Fine flow d (M.pc s) ks → d + length ks ≡ 8 → Owes d (M.pc s) ks N → Ended (keeping M) (keeps s ks) N
    at d ks (back_home {t = t} {n = n} {m = m} r np does kt i one h) f len8 o = back d ks t n m r does kt i one h f len8 o
    at d ks (onward {t = t} {n = n} nr np does kt ne w one h) f len8 o =
        let m : Move flow d (M.pc s) ks n d (M.pc t) ks = Owed.went ne w h in
        let l = lighter N f o m in
        one_more (not_home s ks nr) (went np nr does) l.1 (next (N - n) d t ks (omega (arith, l.1)) kt (fine_on flow m f) len8 l.0)
    at d ks (entered {t = t} {k = k} {n = n} nr ps does kt w e one h) f len8 o = into d ks t k n nr ps does kt w e one h f len8 o
    at d ks (by_data {r = r} x y) f len8 o = record { steps = 0; states = 0; ending = stopped r; run = stops none x; fair = y; in_states = omega arith }

  goes_on : (k : ℕ) → Goal k
  goes_on zero N d s ks h ks' f len8 o = at N s (λ N' d t ks l. absurd (omega arith)) d ks (step s ks' (λ r e. fine_here flow f (M.pc s) (here (stop e)))) f len8 o
  goes_on (suc k) N d s ks h ks' f len8 o = at N s (λ N' d t ks l a b c e. goes_on k N' d t ks (omega arith) a b c e) d ks (step s ks' (λ r e. fine_here flow f (M.pc s) (here (stop e)))) f len8 o

  owes_largest : {p n : ℕ} → Largest flow 8 p n → Owes 8 p [] n
  owes_largest l m (Owed.last r) = l.most m r

  -- the promise
  pub bounded : (s : M.State) (n : ℕ) → Kept s → Clear flow 8 (M.pc s) → Largest flow 8 (M.pc s) n → Bounded (keeping M) (keeps s []) n
  bounded s n k c l =
      let x : Ended (keeping M) (keeps s []) n = goes_on n n 8 s [] (omega arith) k (Owed.last c) refl (owes_largest l) in
      record { steps = x.steps; states = x.states; ending = x.ending; run = x.run; fair = x.fair; within = λ c m t z. omega (arith, x.in_states, run_within (keeping M) (keeping_one M O) x.run z); in_states = x.in_states }
