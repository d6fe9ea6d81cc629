-- A start has one run, so that `Bounded` speaks of the run; and what a run does within a budget is a beginning of it. Over any machine whose step has one
-- answer, and so over the mode that keeps its pushed addresses.
-- Assumes nothing.
use Rattle.std.proofs.Common.{◌≡◌, ℕ, ◌+◌, ◌<◌, ◌≤◌, List, [], ◌∷◌, length, sym, refl, ap, subst, arith}
use Rattle.refusal.specs.declared.Refusal.{Refusal}
use Rattle.machine.specs.Machine.{Machine, Leaving, ninth, elsewhere, Steps, none, more}
use Rattle.machine.specs.Keeping.{Keeps, keeps, Moves, went, called, came, home, Ends, at_ninth, at_elsewhere, keeping}
use Rattle.paths.specs.Runs.{Ending, returned, stopped, left, Off, Run, returns, stops, leaves}

pub record OneStep (M : Machine) : Type 0 where
  pub one_state : (s t u : M.State) (n m : ℕ) → M.Does s t n → M.Does s u m → (t ≡ u) × (n ≡ m)
  pub one_refusal : (s : M.State) (r q : Refusal) → M.Refuses s r → M.Refuses s q → r ≡ q
  pub not_both : (s t : M.State) (n : ℕ) (r : Refusal) → M.Does s t n → M.Refuses s r → ⊥
  pub one_push : (s : M.State) (k l : ℕ) → M.Pushes s k → M.Pushes s l → k ≡ l
  pub no_push : (s : M.State) (k : ℕ) → M.AtReturn s → M.Pushes s k → ⊥
  pub one_leaving : (s : M.State) (e f : Leaving) → M.Leaves s e → M.Leaves s f → e ≡ f
  pub not_leaving : (s t : M.State) (n : ℕ) (e : Leaving) → M.Does s t n → M.Leaves s e → ⊥
  pub not_refused : (s : M.State) (r : Refusal) (e : Leaving) → M.Refuses s r → M.Leaves s e → ⊥

-- the mode
module _ (M : Machine) (O : OneStep M) where
  -- what a step of the mode does with the kept addresses
  data Seen (x y : Keeps M) : Type 0 where
    same : ((k : ℕ) → M.Pushes x.state k → ⊥) → (M.AtReturn x.state → ⊥) → y.kept ≡ x.kept → Seen x y
    push : (k : ℕ) → M.Pushes x.state k → length x.kept < 8 → y.kept ≡ k ∷ x.kept → Seen x y
    pull : M.AtReturn x.state → x.kept ≡ M.pc y.state ∷ y.kept → Seen x y
    none_kept : M.AtReturn x.state → x.kept ≡ [] → y.kept ≡ [] → Seen x y

  seen : {x y : Keeps M} {n : ℕ} → Moves M x y n → Seen x y
  seen (went np nr d) = same np nr refl
  seen (called {k = k} p h d) = push k p h refl
  seen (came r d e) = pull r (rw e)
  seen (home r d) = none_kept r refl refl

  does : {x y : Keeps M} {n : ℕ} → Moves M x y n → M.Does x.state y.state n
  does (went np nr d) = d
  does (called p h d) = d
  does (came r d e) = d
  does (home r d) = d

  one_kept : {x y z : Keeps M} → Seen x y → Seen x z → y.state ≡ z.state → y.kept ≡ z.kept
  one_kept (same np nr e) (same np' nr' e') i = cc
  one_kept (same np nr e) (push k p h e') i = absurd (np k p)
  one_kept (same np nr e) (pull r e') i = absurd (nr r)
  one_kept (same np nr e) (none_kept r a e') i = absurd (nr r)
  one_kept (push k p h e) (same np nr e') i = absurd (np k p)
  one_kept {x} (push k p h e) (push k' p' h' e') i = let j : k ≡ k' = O.one_push x.state k k' p p' in cc
  one_kept {x} (push k p h e) (pull r e') i = absurd (O.no_push x.state k r p)
  one_kept {x} (push k p h e) (none_kept r a e') i = absurd (O.no_push x.state k r p)
  one_kept (pull r e) (same np nr e') i = absurd (nr r)
  one_kept {x} (pull r e) (push k p h e') i = absurd (O.no_push x.state k r p)
  one_kept (pull r e) (pull r' e') i = cc
  one_kept (pull r e) (none_kept r' a e') i = absurd (let z : ◌≡◌ {A = ℕ} 0 1 = cc in omega arith)
  one_kept (none_kept r a e) (same np nr e') i = absurd (nr r)
  one_kept {x} (none_kept r a e) (push k p h e') i = absurd (O.no_push x.state k r p)
  one_kept (none_kept r a e) (pull r' e') i = absurd (let z : ◌≡◌ {A = ℕ} 0 1 = cc in omega arith)
  one_kept (none_kept r a e) (none_kept r' a' e') i = cc

  both_same : {s t : M.State} {ks ls : List ℕ} → s ≡ t → ks ≡ ls → ◌≡◌ {A = Keeps M} (keeps s ks) (keeps t ls)
  both_same e i = rw (e, i)

  one_move : (x y z : Keeps M) (n m : ℕ) → Moves M x y n → Moves M x z m → (y ≡ z) × (n ≡ m)
  one_move x y z n m a b =
      let i = O.one_state x.state y.state z.state n m (does a) (does b) in
      (both_same i.0 (one_kept (seen a) (seen b) i.0), i.1)

  -- why the mode ends
  data Why (x : Keeps M) : Leaving → Type 0 where
    full : (k n : ℕ) (t : M.State) → M.Pushes x.state k → 8 ≤ length x.kept → M.Does x.state t n → Why x ninth
    off : (k n : ℕ) (ks : List ℕ) (t : M.State) → M.AtReturn x.state → x.kept ≡ k ∷ ks → M.Does x.state t n → (M.pc t ≡ k → ⊥) → Why x elsewhere

  why : {x : Keeps M} {e : Leaving} → Ends M x e → Why x e
  why (at_ninth {t = t} {k = k} {n = n} p h d) = full k n t p h d
  why (at_elsewhere {t = t} {ks = ks} {k = k} {n = n} r d h) = off k n ks t r refl d h

  one_why : {x : Keeps M} {e f : Leaving} → Why x e → Why x f → e ≡ f
  one_why (full k n t p h d) (full k' n' t' p' h' d') = refl
  one_why {x} (full k n t p h d) (off k' n' ks t' r i d' o) = absurd (O.no_push x.state k r p)
  one_why {x} (off k' n' ks t' r i d' o) (full k n t p h d) = absurd (O.no_push x.state k r p)
  one_why (off k n ks t r i d o) (off k' n' ks' t' r' i' d' o') = refl

  no_move : {x y : Keeps M} {n : ℕ} {e : Leaving} → M.Does x.state y.state n → Seen x y → Why x e → ⊥
  no_move d (same np nr e) (full k n t p h d') = np k p
  no_move d (same np nr e) (off k n ks t r i d' o) = nr r
  no_move d (push k p h e) (full k' n t p' h' d') = omega arith
  no_move {x} d (push k p h e) (off k' n ks t r i d' o) = O.no_push x.state k r p
  no_move {x} d (pull r e) (full k n t p h d') = O.no_push x.state k r p
  no_move {x} {y} {n} d (pull r e) (off k n' ks t r' i d' o) = let j = (O.one_state x.state y.state t n n' d d').0 in o (let z : M.pc y.state ≡ k = cc in rw j at z)
  no_move {x} d (none_kept r a e) (full k n t p h d') = O.no_push x.state k r p
  no_move d (none_kept r a e) (off k n ks t r' i d' o) = let z : ◌≡◌ {A = ℕ} 0 1 = cc in omega arith

  not_stopped : {x : Keeps M} {r : Refusal} {e : Leaving} → M.Refuses x.state r → Why x e → ⊥
  not_stopped {x} {r} f (full k n t p h d) = O.not_both x.state t n r d f
  not_stopped {x} {r} f (off k n ks t a i d o) = O.not_both x.state t n r d f

  pub keeping_one : OneStep (keeping M)
  keeping_one = record {
    one_state = one_move;
    one_refusal = λ s r q x y. O.one_refusal s.state r q x y;
    not_both = λ s t n r x y. O.not_both s.state t.state n r (does x) y;
    one_push = λ s k l x y. absurd x;
    no_push = λ s k x y. y;
    one_leaving = λ s e f x y. one_why (why x) (why y);
    not_leaving = λ s t n e x y. no_move (does x) (seen x) (why y);
    not_refused = λ s r e x y. not_stopped x (why y);
  }

module _ (M : Machine) (O : OneStep M) where
  -- what a run does last, in the state t: with its steps and states
  data Final (t : M.State) : ℕ → ℕ → Ending → Type 0 where
    at_home : {u : M.State} {n : ℕ} → M.AtReturn t → M.Does t u n → Final t 1 n returned
    at_refusal : {r : Refusal} → M.Refuses t r → Final t 0 0 (stopped r)
    at_leaving : {e : Leaving} → M.Leaves t e → Final t 0 0 (left e)

  final_one : {t : M.State} {a b a' b' : ℕ} {e e' : Ending} → Final t a b e → Final t a' b' e' → (a ≡ a') × (b ≡ b') × (e ≡ e')
  final_one {t} (at_home {u = u} {n = n} r d) (at_home {u = v} {n = m} r' d') = (refl, (O.one_state t u v n m d d').1, refl)
  final_one {t} (at_home {u = u} {n = n} r d) (at_refusal {r = q} x) = absurd (O.not_both t u n q d x)
  final_one {t} (at_home {u = u} {n = n} r d) (at_leaving {e = e} x) = absurd (O.not_leaving t u n e d x)
  final_one {t} (at_refusal {r = q} x) (at_home {u = u} {n = n} r d) = absurd (O.not_both t u n q d x)
  final_one {t} (at_refusal {r = q} x) (at_refusal {r = p} y) = (refl, refl, ap stopped (O.one_refusal t q p x y))
  final_one {t} (at_refusal {r = q} x) (at_leaving {e = e} y) = absurd (O.not_refused t q e x y)
  final_one {t} (at_leaving {e = e} x) (at_home {u = u} {n = n} r d) = absurd (O.not_leaving t u n e d x)
  final_one {t} (at_leaving {e = e} x) (at_refusal {r = q} y) = absurd (O.not_refused t q e y x)
  final_one {t} (at_leaving {e = e} x) (at_leaving {e = f} y) = (refl, refl, ap left (O.one_leaving t e f x y))

  no_more : {t u : M.State} {n a b : ℕ} {e : Ending} → Off M t → M.Does t u n → Final t a b e → ⊥
  no_more o d (at_home r x) = o r
  no_more {t} {u} {n} o d (at_refusal {r = q} x) = O.not_both t u n q d x
  no_more {t} {u} {n} o d (at_leaving {e = e} x) = O.not_leaving t u n e d x

  record Ended (s : M.State) (c m : ℕ) (e : Ending) : Type 0 where
    steps : ℕ
    states : ℕ
    last_steps : ℕ
    last_states : ℕ
    state : M.State
    there : Steps M (Off M) s steps states state
    final : Final state last_steps last_states e
    all_steps : c ≡ steps + last_steps
    all_states : m ≡ states + last_states

  ended : {s : M.State} {c m : ℕ} {e : Ending} → Run M s c m e → Ended s c m e
  ended (returns {t = t} {c = c} {m = m} {n = n} l r d) = record { steps = c; states = m; last_steps = 1; last_states = n; state = t; there = l; final = at_home r d; all_steps = refl; all_states = refl }
  ended (stops {t = t} {c = c} {m = m} l x) = record { steps = c; states = m; last_steps = 0; last_states = 0; state = t; there = l; final = at_refusal x; all_steps = omega arith; all_states = omega arith }
  ended (leaves {t = t} {c = c} {m = m} l x) = record { steps = c; states = m; last_steps = 0; last_states = 0; state = t; there = l; final = at_leaving x; all_steps = omega arith; all_states = omega arith }

  together : {s t t' : M.State} {c c' m m' a a' b b' : ℕ} {e e' : Ending} → Steps M (Off M) s c m t → Final t a b e → Steps M (Off M) s c' m' t' → Final t' a' b' e'
      → (c ≡ c') × (m ≡ m') × (t ≡ t')
  together none l none l' = (refl, refl, refl)
  together none l (more o d k) l' = absurd (no_more o d l)
  together (more o d k) l none l' = absurd (no_more o d l')
  together (more {s = s} {t = a} {n = n} o d k) l (more {t = a'} {u = u} {n = n'} {c = c₂} {m = m₂} o' d' k') l' =
      let i = O.one_state s a a' n n' d d' in
      let r = together k l (subst (λ (z : M.State). Steps M (Off M) z c₂ m₂ u) (sym i.0) k') l' in
      (omega (arith, r.0), omega (arith, r.1, i.1), r.2)

  pub run_one : {s : M.State} {c c' m m' : ℕ} {e e' : Ending} → Run M s c m e → Run M s c' m' e' → (c ≡ c') × (m ≡ m') × (e ≡ e')
  run_one {e' = e'} x y =
      let a = ended x in
      let b = ended y in
      let g = together a.there a.final b.there b.final in
      let f = final_one a.final (subst (λ (z : M.State). Final z b.last_steps b.last_states e') (sym g.2) b.final) in
      (omega (arith, a.all_steps, b.all_steps, g.0, f.0), omega (arith, a.all_states, b.all_states, g.1, f.1), f.2)

  -- steps that do not pass a return are a beginning of the run
  before : {s t t' : M.State} {c c' m m' a b : ℕ} {e : Ending} → Steps M (Off M) s c m t → Final t a b e → Steps M (Off M) s c' m' t' → m' ≤ m
  before none l none = omega arith
  before none l (more o d k) = absurd (no_more o d l)
  before (more o d k) l none = omega arith
  before (more {s = s} {t = a} {n = n} o d k) l (more {t = a'} {u = u} {n = n'} {c = c₂} {m = m₂} o' d' k') =
      let i = O.one_state s a a' n n' d d' in
      omega (arith, i.1, before k l (subst (λ (z : M.State). Steps M (Off M) z c₂ m₂ u) (sym i.0) k'))

  pub run_within : {s t : M.State} {c c' m m' : ℕ} {e : Ending} → Run M s c m e → Steps M (Off M) s c' m' t → m' ≤ m
  run_within x k = let a = ended x in omega (arith, a.all_states, before a.there a.final k)
