-- What a run that keeps the pushed addresses may still come to, over any listing: a path from here, and one from each kept address.
-- Assumes nothing.
use Rattle.std.specs.Prelude.{Result, Ok, Err}
use Rattle.std.proofs.Common.{◌≡◌, ℕ, zero, suc, ◌+◌, ◌<◌, ◌≤◌, List, [], ◌∷◌, sym, refl, subst, inl, ⊎_elim, arith}
use Rattle.refusal.specs.declared.Refusal.TheVariants.{TooDeep, FetchOutside}
use Rattle.refusal.specs.declared.Refusal.{Refusal}
use Rattle.paths.specs.declared.Flow.{Flow}
use Rattle.paths.specs.declared.Flow.TheVariants.{Next, Jump, Either, Call, Ends}
use Rattle.paths.specs.Paths.{Leads, Enters, count_of, Forbidden, stop, deep, Open, Path, ends, goes, calls, here, Clear}
use Rattle.paths.proofs.Laws.{le_or, up, clear_open, clear_on, clear_into}

module _ (flow : ℕ → Result Flow Refusal) where
  -- a clear place has a path, if what follows and what it enters have one
  from : (d p : ℕ) → Clear flow d p → ((q : ℕ) → Leads (flow p) q → (n : ℕ) × Path flow d q n)
      → ((e t : ℕ) → d ≡ suc e → Enters (flow p) t → (n : ℕ) × Path flow e t n) → (n : ℕ) × Path flow d p n
  from d p c on in' = at (flow p) refl
    where
      on' : (q : ℕ) → Leads (flow p) q → ((t : ℕ) → Enters (flow p) t → ⊥) → (n : ℕ) × Path flow d p n
      on' q w ne = (count_of (flow p) + (on q w).0, goes (clear_open flow c) ne w (on q w).1)

      call : (x : ℕ) → d ≡ x → (n t : ℕ) → Leads (flow p) n → Enters (flow p) t → (m : ℕ) × Path flow d p m
      call zero z n t w e = absurd (c p (here {r = TooDeep p} (subst (λ (y : ℕ). Forbidden flow y p (TooDeep p)) (sym z) (deep t e))))
      call (suc x) z n t w e =
          let a = in' x t z e in let b = on n w in (
            count_of (flow p) + a.0 + b.0,
            subst (λ (y : ℕ). Path flow y p (count_of (flow p) + a.0 + b.0)) (sym z)
                (calls e a.1 w (subst (λ (y : ℕ). Open flow y p) z (clear_open flow c)) (subst (λ (y : ℕ). Path flow y n b.0) z b.1)),
          )

      at : (f : Result Flow Refusal) → flow p ≡ f → (n : ℕ) × Path flow d p n
      at (Ok (Next n s)) i = on' n (subst (λ (f : Result Flow Refusal). Leads f n) (sym i) refl) (λ t e. subst (λ (f : Result Flow Refusal). Enters f t) i e)
      at (Ok (Jump n s)) i = on' n (subst (λ (f : Result Flow Refusal). Leads f n) (sym i) refl) (λ t e. subst (λ (f : Result Flow Refusal). Enters f t) i e)
      at (Ok (Either n t s)) i = on' n (subst (λ (f : Result Flow Refusal). Leads f n) (sym i) (inl refl)) (λ t e. subst (λ (f : Result Flow Refusal). Enters f t) i e)
      at (Ok (Call n t s)) i = call d refl n t (subst (λ (f : Result Flow Refusal). Leads f n) (sym i) refl) (subst (λ (f : Result Flow Refusal). Enters f t) (sym i) refl)
      at (Ok (Ends s)) i = (s, ends i)
      at (Err r) i = absurd (c p (here (stop i)))

  module _ (len : ℕ) (outside : (p : ℕ) → len ≤ p → flow p ≡ Err (FetchOutside p)) where
    inside : {d p : ℕ} → Clear flow d p → p < len
    inside {d} {p} c = ⊎_elim (λ h. absurd (c p (here (stop (outside p h))))) (λ h. h) (le_or len p)

    -- remaining places fall, at a depth whose routines below have paths
    places : (d : ℕ) → ((e t : ℕ) → d ≡ suc e → Clear flow e t → (n : ℕ) × Path flow e t n) → (k p : ℕ) → len ≤ p + k → Clear flow d p → (n : ℕ) × Path flow d p n
    places d below zero p h c = absurd (let l : p < len = inside c in omega arith)
    places d below (suc k) p h c =
        from d p c (λ q w. let l : p < q = up flow (clear_open flow c) w in places d below k q (omega arith) (clear_on flow c w))
        (λ e t z i. below e t z (clear_into flow (subst (λ (y : ℕ). Clear flow y p) z c) i))

    -- remaining depth falls
    pub clear_path : (d p : ℕ) → Clear flow d p → (n : ℕ) × Path flow d p n
    clear_path zero p c = places zero (λ e t z. absurd (let y : 0 ≡ suc e = z in omega arith)) len p (omega arith) c
    clear_path (suc d) p c =
        places (suc d) (λ e t z k. let q : d ≡ e = omega arith in subst (λ (x : ℕ). (n : ℕ) × Path flow x t n) q (clear_path d t (subst (λ (x : ℕ). Clear flow x t) (sym q) k))) len p (omega arith) c

  -- a run that keeps the pushed addresses: the levels left, the place, and the addresses kept, the last first
  pub data Move : ℕ → ℕ → List ℕ → ℕ → ℕ → ℕ → List ℕ → Type 0 where
    went : {d p q n : ℕ} {ks : List ℕ} → ((t : ℕ) → Enters (flow p) t → ⊥) → Leads (flow p) q → n ≤ count_of (flow p) → Move d p ks n d q ks
    called : {d p q t n : ℕ} {ks : List ℕ} → Enters (flow p) t → Leads (flow p) q → n ≤ count_of (flow p) → Move (suc d) p ks n d t (q ∷ ks)
    came : {d p r s n : ℕ} {ks : List ℕ} → flow p ≡ Ok (Ends s) → n ≤ s → Move d p (r ∷ ks) n (suc d) r ks

  -- what may still come: a path from here, and one from each kept address
  pub data Tail : ℕ → ℕ → List ℕ → ℕ → Type 0 where
    last : {d p n : ℕ} → Path flow d p n → Tail d p [] n
    then : {d p r n m : ℕ} {ks : List ℕ} → Path flow d p n → Tail (suc d) r ks m → Tail d p (r ∷ ks) (n + m)

  pub data Fine : ℕ → ℕ → List ℕ → Type 0 where
    last : {d p : ℕ} → Clear flow d p → Fine d p []
    then : {d p r : ℕ} {ks : List ℕ} → Clear flow d p → Fine (suc d) r ks → Fine d p (r ∷ ks)

  pub fine_here : {d p : ℕ} {ks : List ℕ} → Fine d p ks → Clear flow d p
  fine_here (last c) = c
  fine_here (then c f) = c

  fine_at : {d p q : ℕ} {ks : List ℕ} → Clear flow d q → Fine d p ks → Fine d q ks
  fine_at c (last x) = last c
  fine_at c (then x f) = then c f

  pub fine_on : {d p d' p' n : ℕ} {ks ks' : List ℕ} → Move d p ks n d' p' ks' → Fine d p ks → Fine d' p' ks'
  fine_on (went ne w h) f = fine_at (clear_on flow (fine_here f) w) f
  fine_on (called e w h) f = then (clear_into flow (fine_here f) e) (fine_at (clear_on flow (fine_here f) w) f)
  fine_on (came i h) (then c f) = f

  -- a path before what may still come
  before : {d p q m : ℕ} {ks : List ℕ} (s : ℕ) → ((x : ℕ) → Path flow d q x → Path flow d p (s + x)) → Tail d q ks m → Tail d p ks (s + m)
  before s g (last r) = last (g _ r)
  before {d} {p} {ks = ks} s g (then {n = n} {m = m} r t) = let e : s + n + m ≡ s + (n + m) = omega arith in subst (λ (x : ℕ). Tail d p ks x) e (then (g n r) t)

  -- what may come after a step may come before it, with the step's states
  pub back_over : {d p d' p' n m : ℕ} {ks ks' : List ℕ} → Clear flow d p → Move d p ks n d' p' ks' → Tail d' p' ks' m → (k : ℕ) × Tail d p ks k × (n + m ≤ k)
  back_over {m = m} c (went {p = p} ne w h) t = (count_of (flow p) + m, before (count_of (flow p)) (λ x r. goes (clear_open flow c) ne w r) t, omega arith)
  back_over c (called {d = d} {p = p} {q = q} e w h) (then {n = a} {m = b} r t) =
      (count_of (flow p) + a + b, before (count_of (flow p) + a) (λ x y. calls e r w (clear_open flow c) y) t, omega arith)
  back_over {m = m} c (came {s = s} i h) t = (s + m, then (ends i) t, omega arith)

  module _ (len : ℕ) (outside : (p : ℕ) → len ≤ p → flow p ≡ Err (FetchOutside p)) where
    pub some_tail : {d p : ℕ} {ks : List ℕ} → Fine d p ks → (m : ℕ) × Tail d p ks m
    some_tail {d} {p} (last c) = let x = clear_path len outside d p c in (x.0, last x.1)
    some_tail {d} {p} (then c f) = let x = clear_path len outside d p c in let y = some_tail f in (x.0 + y.0, then x.1 y.1)
