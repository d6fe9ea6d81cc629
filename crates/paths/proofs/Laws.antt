-- Laws of paths, over any listing.
-- Assumes nothing.
use Rattle.std.specs.Prelude.{Result, Ok, Err}
use Rattle.std.proofs.Common.{◌≡◌, ℕ, suc, ◌+◌, ◌%◌, ◌<◌, ◌≤◌, min, max, cond, eqb, ◌⊎◌, sym, refl, subst, inl, inr, ⊎_elim, le_refl, le_antisymm, arith, ne_eqb}
use native.Mathlib.Nat.{min-eq_left, min-eq_right, max-eq_left, max-eq_right}
use native.Mathlib.Decide.{dec_le}
use Rattle.refusal.specs.declared.Refusal.{Refusal}
use Rattle.refusal.specs.declared.Refusal.TheVariants.{FetchOutside, NotUpward}
use Rattle.paths.specs.declared.Flow.{Flow}
use Rattle.paths.specs.declared.Flow.TheVariants.{Next, Jump, Either, Call, Ends}
use Rattle.paths.specs.Paths.{IsPlace, Leads, Enters, count_of, Forbidden, stop, back, deep, Open, Path, ends, goes, calls, Meets, here, later, into, Largest, Clear, Lowest, IsFigure, Over, Row, figure, over, refused}
use Rattle.paths.specs.Levels.{Held, totals, bars}

pub le_or : (a b : ℕ) → (a ≤ b) ⊎ (b < a)
le_or a b = go (dec_le a b)
  where
    go : Dec (a ≤ b) → (a ≤ b) ⊎ (b < a)
    go (yes h) = inl h
    go (no h) = inr (omega arith)

-- all that follows an instruction, which is no call, is n and t
pub record Both (f : Result Flow Refusal) (n t : ℕ) : Type 0 where
  pub first : Leads f n
  pub second : Leads f t
  pub only : (q : ℕ) → Leads f q → (q ≡ n) ⊎ (q ≡ t)
  pub plain : (q : ℕ) → Enters f q → ⊥

pub both_next : (n s : ℕ) → Both (Ok (Next n s)) n n
both_next n s = record { first = refl; second = refl; only = λ q w. inl w; plain = λ q e. e }

pub both_jump : (t s : ℕ) → Both (Ok (Jump t s)) t t
both_jump t s = record { first = refl; second = refl; only = λ q w. inl w; plain = λ q e. e }

pub both_either : (n t s : ℕ) → Both (Ok (Either n t s)) n t
both_either n t s = record { first = inl refl; second = inr refl; only = λ q w. w; plain = λ q e. e }

-- what a listing of `len` bytes keeps to: ways lead to places and calls enter places, what follows a call is above it, and an instruction has at most 32 states
pub record Listing (flow : ℕ → Result Flow Refusal) (len : ℕ) : Type 0 where
  pub small : len ≤ 524288
  pub even_length : len % 2 ≡ 0
  pub outside : (p : ℕ) → len ≤ p → flow p ≡ Err (FetchOutside p)
  pub ways : (p q : ℕ) → IsPlace p → Leads (flow p) q → IsPlace q
  pub entries : (p t : ℕ) → IsPlace p → Enters (flow p) t → IsPlace t
  pub after_call : (p q t : ℕ) → IsPlace p → Enters (flow p) t → Leads (flow p) q → p < q
  pub few : (p : ℕ) → IsPlace p → count_of (flow p) ≤ 32

module _ (flow : ℕ → Result Flow Refusal) where
  -- ways of an allowed place go up
  pub up : {d p q : ℕ} → Open flow d p → Leads (flow p) q → p < q
  up {d} {p} {q} o w = ⊎_elim (λ h. absurd (o (NotUpward p) (back w h))) (λ h. h) (le_or q p)

  -- no way leaves a return, or a place with nothing to follow, and neither calls
  pub no_way_ends : {p s : ℕ} → flow p ≡ Ok (Ends s) → (q : ℕ) → Leads (flow p) q → ⊥
  no_way_ends e q w = subst (λ (f : Result Flow Refusal). Leads f q) e w

  pub no_way_stop : {p : ℕ} {r : Refusal} → flow p ≡ Err r → (q : ℕ) → Leads (flow p) q → ⊥
  no_way_stop e q w = subst (λ (f : Result Flow Refusal). Leads f q) e w

  pub no_call_ends : {p s : ℕ} → flow p ≡ Ok (Ends s) → (t : ℕ) → Enters (flow p) t → ⊥
  no_call_ends e t w = subst (λ (f : Result Flow Refusal). Enters f t) e w

  pub no_call_stop : {p : ℕ} {r : Refusal} → flow p ≡ Err r → (t : ℕ) → Enters (flow p) t → ⊥
  no_call_stop e t w = subst (λ (f : Result Flow Refusal). Enters f t) e w

  pub ends_stop : {p s : ℕ} {r : Refusal} → flow p ≡ Ok (Ends s) → flow p ≡ Err r → ⊥
  ends_stop e e' = let z : ◌≡◌ {A = ℕ} 0 1 = cc in omega arith

  pub largest_one : {d p n m : ℕ} → Largest flow d p n → Largest flow d p m → n ≡ m
  largest_one l l' = le_antisymm (l'.most _ l.some) (l.most _ l'.some)

  pub lowest_one : {d p f g : ℕ} → Lowest flow d p f → Lowest flow d p g → f ≡ g
  lowest_one l l' = le_antisymm (l.least _ l'.met) (l'.least _ l.met)

  -- a row is the only one of its place
  pub figure_over : {p n : ℕ} → IsFigure flow p n → Over flow p → ⊥
  figure_over c v = omega (arith, largest_one c.largest v.largest, c.held, v.above)

  pub row_one : {p a b a' b' : ℕ} → Row flow p a b → Row flow p a' b' → (a ≡ a') × (b ≡ b')
  row_one (figure c) (figure c') = (largest_one c.largest c'.largest, refl)
  row_one (figure c) (over v) = absurd (figure_over c v)
  row_one (figure c) (refused w) = absurd (c.clear _ w.met)
  row_one (over v) (figure c) = absurd (figure_over c v)
  row_one (over v) (over v') = (refl, refl)
  row_one (over v) (refused w) = absurd (v.clear _ w.met)
  row_one (refused w) (figure c) = absurd (c.clear _ w.met)
  row_one (refused w) (over v) = absurd (v.clear _ w.met)
  row_one (refused w) (refused w') = (refl, lowest_one w w')

  pub held_one : {d p a b a' b' : ℕ} → Held flow d p a b → Held flow d p a' b' → (a ≡ a') × (b ≡ b')
  held_one (totals {n = n} c l) (totals {n = m} c' l') = let e : n ≡ m = largest_one l l' in (rw e, refl)
  held_one (totals c l) (bars w) = absurd (c _ w.met)
  held_one (bars w) (totals c l) = absurd (c _ w.met)
  held_one (bars w) (bars w') = (refl, lowest_one w w')

  pub held_small : {d p n f : ℕ} → Held flow d p n f → n ≤ 1000000001
  held_small (totals c l) = omega arith
  held_small (bars w) = omega arith

  pub held_cast : {d p a b a' b' : ℕ} → a ≡ a' → b ≡ b' → Held flow d p a' b' → Held flow d p a b
  held_cast {d} {p} {a} {b} {a'} {b'} x y r = rw (x, y) r

  pub row_cast : {p a b a' b' : ℕ} → a ≡ a' → b ≡ b' → Row flow p a' b' → Row flow p a b
  row_cast {p} {a} {b} {a'} {b'} x y r = rw (x, y) r

  pub meets_forbidden : {d p f : ℕ} → Meets flow d p f → (e : ℕ) × (r : Refusal) × Forbidden flow e f r
  meets_forbidden {d} (here {r = r} b) = (d, r, b)
  meets_forbidden (later o w m) = meets_forbidden m
  meets_forbidden (into o e m) = meets_forbidden m

  -- the row of a forbidden place, and of a return
  stop_least : {d p : ℕ} {r : Refusal} → Forbidden flow d p r → (g : ℕ) → Meets flow d p g → p ≤ g
  stop_least b g (here b') = le_refl _
  stop_least b g (later o w m) = absurd (o _ b)
  stop_least b g (into o e m) = absurd (o _ b)

  pub held_stop : {d p : ℕ} {r : Refusal} → Forbidden flow d p r → Held flow d p 0 p
  held_stop b = bars (record { met = here b; least = stop_least b })

  pub clear_ends : {d p s : ℕ} → flow p ≡ Ok (Ends s) → Clear flow d p
  clear_ends e f (here (stop e')) = ends_stop e e'
  clear_ends e f (here (back w h)) = no_way_ends e _ w
  clear_ends e f (here (deep t w)) = no_call_ends e t w
  clear_ends e f (later o w m) = no_way_ends e _ w
  clear_ends e f (into o w m) = no_call_ends e _ w

  most_ends : {d p s : ℕ} → flow p ≡ Ok (Ends s) → (m : ℕ) → Path flow d p m → m ≤ s
  most_ends {d} {p} {s} e m (ends e') = let z : m ≡ s = cc in omega arith
  most_ends {d} {p} {s} e m (goes o ne w r) = absurd (no_way_ends e _ w)
  most_ends {d} {p} {s} e m (calls i r w o r') = absurd (no_way_ends e _ w)

  pub largest_ends : {d p s : ℕ} → flow p ≡ Ok (Ends s) → Largest flow d p s
  largest_ends e = record { some = ends e; most = most_ends e }

  pub held_ends : {d p s : ℕ} → flow p ≡ Ok (Ends s) → Held flow d p (min s 1000000001) 16777215
  held_ends e = totals (clear_ends e) (largest_ends e)

  -- clear places
  pub clear_open : {d p : ℕ} → Clear flow d p → Open flow d p
  clear_open {d} {p} c r b = c p (here b)

  pub clear_on : {d p q : ℕ} → Clear flow d p → Leads (flow p) q → Clear flow d q
  clear_on c w f m = c f (later (clear_open c) w m)

  pub clear_into : {d p t : ℕ} → Clear flow (suc d) p → Enters (flow p) t → Clear flow d t
  clear_into c e f m = c f (into (clear_open c) e m)

  as_refused : {d p : ℕ} (f x : ℕ) → f < 16777215 → Lowest flow d p f → Held flow d p (cond (eqb f 16777215) x 0) f
  as_refused f x h w = rw (ne_eqb f 16777215 (omega arith)) (bars w)

  -- the row of p from two rows: A and B are what their paths meet, all that a path from p meets, and n is its total if they meet nothing
  module _ {d p : ℕ} (A B : ℕ → Type 0) (low : (g : ℕ) → Meets flow d p g → g < 16777215) (met-a : (g : ℕ) → A g → Meets flow d p g) (met-b : (g : ℕ) → B g → Meets flow d p g)
      (only : (g : ℕ) → Meets flow d p g → A g ⊎ B g) where
    least : (fa fb : ℕ) → ((g : ℕ) → A g → fa ≤ g) → ((g : ℕ) → B g → fb ≤ g) → (g : ℕ) → Meets flow d p g → min fa fb ≤ g
    least fa fb ha hb g m = ⊎_elim (λ x. omega (arith, ha g x)) (λ x. omega (arith, hb g x)) (only g m)

    pub clear_two : ((g : ℕ) → A g → ⊥) → ((g : ℕ) → B g → ⊥) → Clear flow d p
    clear_two a b g m = ⊎_elim (λ x. a g x) (λ x. b g x) (only g m)

    pub bars_second : (fb x : ℕ) → ((g : ℕ) → A g → ⊥) → B fb → ((g : ℕ) → B g → fb ≤ g) → Held flow d p (cond (eqb (min 16777215 fb) 16777215) x 0) (min 16777215 fb)
    bars_second fb x a m h =
        let k : fb < 16777215 = low fb (met-b fb m) in
        as_refused (min 16777215 fb) x (omega arith)
        (record { met = rw (min-eq_right {n = fb} {m = 16777215} (omega arith)) (met-b fb m); least = least 16777215 fb (λ g y. absurd (a g y)) h })

    pub bars_first : (fa x : ℕ) → ((g : ℕ) → B g → ⊥) → A fa → ((g : ℕ) → A g → fa ≤ g) → Held flow d p (cond (eqb (min fa 16777215) 16777215) x 0) (min fa 16777215)
    bars_first fa x b m h =
        let k : fa < 16777215 = low fa (met-a fa m) in
        as_refused (min fa 16777215) x (omega arith)
        (record { met = rw (min-eq_left {n = fa} {m = 16777215} (omega arith)) (met-a fa m); least = least fa 16777215 h (λ g y. absurd (b g y)) })

    pub bars_both : (fa fb x : ℕ) → A fa → ((g : ℕ) → A g → fa ≤ g) → B fb → ((g : ℕ) → B g → fb ≤ g) → Held flow d p (cond (eqb (min fa fb) 16777215) x 0) (min fa fb)
    bars_both fa fb x ma ha mb hb =
        let k : fa < 16777215 = low fa (met-a fa ma) in
        as_refused (min fa fb) x (omega arith) (record { met = met; least = least fa fb ha hb })
      where
        met : Meets flow d p (min fa fb)
        met = ⊎_elim (λ h. rw (min-eq_left {n = fa} {m = fb} h) (met-a fa ma)) (λ h. rw (min-eq_right {n = fb} {m = fa} (omega arith)) (met-b fb mb)) (le_or fa fb)

  -- the row of p from the rows of a and b, which are all that follows it
  module _ {p : ℕ} (a b : ℕ) (B : Both (flow p) a b) where
    join_most : {d : ℕ} (na nb : ℕ) → ((m : ℕ) → Path flow d a m → m ≤ na) → ((m : ℕ) → Path flow d b m → m ≤ nb) → (m : ℕ) → Path flow d p m → m ≤ count_of (flow p) + max na nb
    join_most na nb ha hb m (ends e) = absurd (no_way_ends e _ B.first)
    join_most {d} na nb ha hb m (goes {q = q} {n = n} o' ne w r) =
        ⊎_elim (λ e. omega (arith, ha n (subst (λ (x : ℕ). Path flow d x n) e r))) (λ e. omega (arith, hb n (subst (λ (x : ℕ). Path flow d x n) e r))) (B.only q w)
    join_most na nb ha hb m (calls i r w o' r') = absurd (B.plain _ i)

    join_some : {d : ℕ} (na nb : ℕ) → Open flow d p → Path flow d a na → Path flow d b nb → Path flow d p (count_of (flow p) + max na nb)
    join_some na nb o ra rb = ⊎_elim (λ h. rw (max-eq_right {n = na} {m = nb} h) (goes o B.plain B.second rb)) (λ h. rw (max-eq_left {n = na} {m = nb} (omega arith)) (goes o B.plain B.first ra)) (le_or na nb)

    pub largest_join : {d na nb : ℕ} → Open flow d p → Largest flow d a na → Largest flow d b nb → Largest flow d p (count_of (flow p) + max na nb)
    largest_join {d} {na} {nb} o l l' = record { some = join_some na nb o l.some l'.some; most = join_most na nb l.most l'.most }

    join_only : {d : ℕ} → Open flow d p → (g : ℕ) → Meets flow d p g → Meets flow d a g ⊎ Meets flow d b g
    join_only o g (here k) = absurd (o _ k)
    join_only {d} o g (later {q = q} o' w m) = ⊎_elim (λ e. inl (subst (λ (x : ℕ). Meets flow d x g) e m)) (λ e. inr (subst (λ (x : ℕ). Meets flow d x g) e m)) (B.only q w)
    join_only o g (into o' i m) = absurd (B.plain _ i)

    module _ {d : ℕ} (o : Open flow d p) where
      pub held_join : {na fa nb fb : ℕ} → ((g : ℕ) → Meets flow d p g → g < 16777215) → Held flow d a na fa → Held flow d b nb fb
          → Held flow d p (cond (eqb (min fa fb) 16777215) (min (count_of (flow p) + max na nb) 1000000001) 0) (min fa fb)
      held_join low (totals {n = x} c l) (totals {n = y} c' l') =
          held_cast {a = min (count_of (flow p) + max (min x 1000000001) (min y 1000000001)) 1000000001} {a' = min (count_of (flow p) + max x y) 1000000001} (omega arith) refl
          (totals (clear_two (Meets flow d a) (Meets flow d b) low (λ g m. later o B.first m) (λ g m. later o B.second m) (join_only o) c c') (largest_join o l l'))
      held_join low (totals c l) (bars {f = fb} w) = bars_second (Meets flow d a) (Meets flow d b) low (λ g m. later o B.first m) (λ g m. later o B.second m) (join_only o) fb _ c w.met w.least
      held_join low (bars {f = fa} w) (totals c l) = bars_first (Meets flow d a) (Meets flow d b) low (λ g m. later o B.first m) (λ g m. later o B.second m) (join_only o) fa _ c w.met w.least
      held_join low (bars {f = fa} w) (bars {f = fb} w') = bars_both (Meets flow d a) (Meets flow d b) low (λ g m. later o B.first m) (λ g m. later o B.second m) (join_only o) fa fb _ w.met w.least w'.met w'.least

  -- a call asks for the longest path of the routine that it enters
  module _ {d p n t s : ℕ} (i : flow p ≡ Ok (Call n t s)) (o : Open flow (suc d) p) where
    leads : Leads (flow p) n
    leads = subst (λ (f : Result Flow Refusal). Leads f n) (sym i) refl

    enters : Enters (flow p) t
    enters = subst (λ (f : Result Flow Refusal). Enters f t) (sym i) refl

    pub call_largest : {a b : ℕ} → Largest flow d t a → Largest flow (suc d) n b → Largest flow (suc d) p (count_of (flow p) + a + b)
    call_largest {a} {b} la lb = record { some = calls enters la.some leads o lb.some; most = most }
      where
        most : (m : ℕ) → Path flow (suc d) p m → m ≤ count_of (flow p) + a + b
        most m (ends e) = absurd (let z : ◌≡◌ {A = ℕ} 0 1 = cc in omega arith)
        most m (goes o' ne w r) = absurd (ne t enters)
        most m (calls {q = q} {t = u} {n = y} {m = x} e r w o' r') =
            let h : u ≡ t = subst (λ (f : Result Flow Refusal). Enters f u) i e in
            let k : q ≡ n = subst (λ (f : Result Flow Refusal). Leads f q) i w in
            let l : x ≤ a = la.most x (subst (λ (v : ℕ). Path flow d v x) h r) in
            let l' : y ≤ b = lb.most y (subst (λ (v : ℕ). Path flow (suc d) v y) k r') in
            omega arith

    call_only : (g : ℕ) → Meets flow (suc d) p g → Meets flow d t g ⊎ Meets flow (suc d) n g
    call_only g (here k) = absurd (o _ k)
    call_only g (later {q = q} o' w m) = inr (subst (λ (x : ℕ). Meets flow (suc d) x g) (subst (λ (f : Result Flow Refusal). Leads f q) i w) m)
    call_only g (into {t = u} o' e m) = inl (subst (λ (x : ℕ). Meets flow d x g) (subst (λ (f : Result Flow Refusal). Enters f u) i e) m)

    -- so a call's row comes of the routine's, with a level less, and of what follows
    pub held_call : {na fa nb fb : ℕ} → ((g : ℕ) → Meets flow (suc d) p g → g < 16777215) → Held flow d t na fa → Held flow (suc d) n nb fb
        → Held flow (suc d) p (cond (eqb (min fa fb) 16777215) (min (count_of (flow p) + (na + nb)) 1000000001) 0) (min fa fb)
    held_call low (totals {n = x} c l) (totals {n = y} c' l') =
        held_cast {a = min (count_of (flow p) + (min x 1000000001 + min y 1000000001)) 1000000001} {a' = min (count_of (flow p) + x + y) 1000000001} (omega arith) refl
        (totals (clear_two (Meets flow d t) (Meets flow (suc d) n) low (λ g m. into o enters m) (λ g m. later o leads m) call_only c c') (call_largest l l'))
    held_call low (totals c l) (bars {f = fb} w) = bars_second (Meets flow d t) (Meets flow (suc d) n) low (λ g m. into o enters m) (λ g m. later o leads m) call_only fb _ c w.met w.least
    held_call low (bars {f = fa} w) (totals c l) = bars_first (Meets flow d t) (Meets flow (suc d) n) low (λ g m. into o enters m) (λ g m. later o leads m) call_only fa _ c w.met w.least
    held_call low (bars {f = fa} w) (bars {f = fb} w') = bars_both (Meets flow d t) (Meets flow (suc d) n) low (λ g m. into o enters m) (λ g m. later o leads m) call_only fa fb _ w.met w.least w'.met w'.least

-- over a good listing
module _ (flow : ℕ → Result Flow Refusal) (len : ℕ) (L : Listing flow len) where
  -- a place is forbidden by one refusal at most, whatever the levels left
  pub forbidden_one : {d d' p : ℕ} {r r' : Refusal} → IsPlace p → Forbidden flow d p r → Forbidden flow d' p r' → r ≡ r'
  forbidden_one z (stop e) (stop e') = cc
  forbidden_one z (stop e) (back w h) = absurd (no_way_stop flow e _ w)
  forbidden_one z (stop e) (deep t w) = absurd (no_call_stop flow e t w)
  forbidden_one z (back w h) (stop e) = absurd (no_way_stop flow e _ w)
  forbidden_one z (back w h) (back w' h') = refl
  forbidden_one {p = p} z (back {q = q} w h) (deep t e) = absurd (omega (arith, L.after_call p q t z e w))
  forbidden_one z (deep t e) (stop i) = absurd (no_call_stop flow i t e)
  forbidden_one {p = p} z (deep t e) (back {q = q} w h) = absurd (omega (arith, L.after_call p q t z e w))
  forbidden_one z (deep t e) (deep t' e') = refl

  -- a forbidden place that is met is a place
  pub meets_place : {d p f : ℕ} → IsPlace p → Meets flow d p f → IsPlace f
  meets_place z (here b) = z
  meets_place {p = p} z (later {q = q} o w m) = meets_place (L.ways p q z w) m
  meets_place {p = p} z (into {t = t} o e m) = meets_place (L.entries p t z e) m

  -- so it is below 16,777,215
  pub meets_in : {d p f : ℕ} → IsPlace p → Meets flow d p f → f < 16777215
  meets_in z m = let x = meets_place z m in omega (arith, x.even, x.in_range)

  pub held_outside : {d p : ℕ} → len ≤ p → Held flow d p 0 p
  held_outside {d} {p} h = held_stop flow (stop (L.outside p h))

  pub row_outside : {p : ℕ} → len ≤ p → Row flow p 0 p
  row_outside {p} h = refused (record { met = here (stop (L.outside p h)); least = stop_least flow (stop (L.outside p h)) })

  pub held_low : {d p n f : ℕ} → IsPlace p → Held flow d p n f → f < 16777216
  held_low z (totals c l) = omega arith
  held_low z (bars w) = omega (arith, meets_in z w.met)

  pub clear_in : {d p : ℕ} → Clear flow d p → p < len
  clear_in {d} {p} c = ⊎_elim (λ h. absurd (c p (here (stop (L.outside p h))))) (λ h. h) (le_or len p)
