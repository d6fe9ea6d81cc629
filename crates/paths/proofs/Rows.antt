-- What the code reckons is what `Paths` says of a place: its row, and where its longest way goes on.
-- Assumes nothing.
use Rattle.std.specs.Prelude.{Result, Ok, Err}
use Rattle.std.proofs.Common.{◌≡◌, ℕ, zero, suc, ◌+◌, ◌-◌, ◌%◌, ◌^◌, ◌<◌, ◌≤◌, min, max, ◌⊎◌, List, get_or, sym, refl, subst, inl, inr, ⊎_elim, arith, le-ltb, lt-ltb, ne_eqb, le-leb}
use borrow.Author.Tests.{lt-leb}
use Rattle.refusal.specs.declared.Refusal.{Refusal}
use Rattle.refusal.specs.declared.Refusal.TheVariants.{NotUpward, TooDeep, TooLong}
use Rattle.paths.specs.declared.Reckoned.{Reckoned}
use Rattle.paths.specs.declared.Flow.{Flow}
use Rattle.paths.specs.declared.Flow.TheVariants.{Next, Jump, Either, Call, Ends}
use Rattle.paths.specs.Paths.{IsPlace, Leads, Enters, count_of, Forbidden, stop, back, deep, Open, Row, figure, over, refused, RowsFrom}
use Rattle.paths.specs.Levels.{Held, totals, bars, HeldIs, LevelFrom}
use Rattle.paths.specs.MirrorRows.{row_of, level_of, shown_of, total_of, joined, called_of, upward_of, entered_of, reckoned_of, why_of, turned_of, own_of}
use Rattle.paths.proofs.Laws.{le_or, Both, both_next, both_jump, both_either, Listing, up, no_way_stop, no_call_stop, held_stop, held_ends, held_join, held_call, held_small, held_outside, row_outside, meets_in}

-- a place is allowed if its ways go up, and a call is with a level left
open_both : (flow : ℕ → Result Flow Refusal) {d p : ℕ} (n t : ℕ) → Both (flow p) n t → p < n → p < t → Open flow d p
open_both flow n t B h k r (stop e) = no_way_stop flow e n B.first
open_both flow n t B h k r (back {q = q} w l) = ⊎_elim (λ (e : q ≡ n). omega arith) (λ (e : q ≡ t). omega arith) (B.only q w)
open_both flow n t B h k r (deep u e) = B.plain u e

-- a forbidden place is forbidden by what the code says
why_back : (q p : ℕ) (f : Result Flow Refusal) → ((t : ℕ) → Enters f t → ⊥) → Leads f q → why_of p f ≡ NotUpward p
unfolding why_of
why_back q p (Ok (Next n s)) x w = refl
why_back q p (Ok (Jump t s)) x w = refl
why_back q p (Ok (Either n t s)) x w = refl
why_back q p (Ok (Call n t s)) x w = absurd (x t refl)
why_back q p (Ok (Ends s)) x w = refl
why_back q p (Err r) x w = absurd w

why_deep : (t p : ℕ) (f : Result Flow Refusal) → Enters f t → why_of p f ≡ TooDeep p
unfolding why_of
why_deep t p (Ok (Next n s)) w = absurd w
why_deep t p (Ok (Jump u s)) w = absurd w
why_deep t p (Ok (Either n u s)) w = absurd w
why_deep t p (Ok (Call n u s)) w = refl
why_deep t p (Ok (Ends s)) w = absurd w
why_deep t p (Err r) w = absurd w

-- and so is the place of a row that has its own address
turned_back : (p n t : ℕ) → (n ≤ p) ⊎ (t ≤ p) → turned_of p n t ≡ NotUpward p
unfolding turned_of
turned_back p n t (inl h) = simp (le-leb n p h)
turned_back p n t (inr h) = ⊎_elim (λ k. simp (le-leb n p k)) (λ k. simp (lt-leb n p k, le-leb t p h)) (le_or n p)

turned_up : (p n t : ℕ) → p < n → p < t → turned_of p n t ≡ TooLong p
unfolding turned_of
turned_up p n t h k = simp (lt-leb n p h, lt-leb t p k)

own_back : (q p : ℕ) (f : Result Flow Refusal) → ((t : ℕ) → Enters f t → ⊥) → Leads f q → q ≤ p → own_of p f ≡ NotUpward p
unfolding own_of
own_back q p (Ok (Next n s)) x w h = turned_back p n n (inl (omega arith))
own_back q p (Ok (Jump t s)) x w h = turned_back p t t (inl (omega arith))
own_back q p (Ok (Either n t s)) x (inl w) h = turned_back p n t (inl (omega arith))
own_back q p (Ok (Either n t s)) x (inr w) h = turned_back p n t (inr (omega arith))
own_back q p (Ok (Call n t s)) x w h = absurd (x t refl)
own_back q p (Ok (Ends s)) x w h = absurd w
own_back q p (Err r) x w h = absurd w

own_open : (p : ℕ) (f : Result Flow Refusal) → ((r : Refusal) → f ≡ Err r → ⊥) → ((q : ℕ) → Leads f q → p < q) → own_of p f ≡ TooLong p
unfolding own_of
own_open p (Ok (Next n s)) x w = turned_up p n n (w n refl) (w n refl)
own_open p (Ok (Jump t s)) x w = turned_up p t t (w t refl) (w t refl)
own_open p (Ok (Either n t s)) x w = turned_up p n t (w n (inl refl)) (w t (inr refl))
own_open p (Ok (Call n t s)) x w = refl
own_open p (Ok (Ends s)) x w = refl
own_open p (Err r) x w = absurd (x r refl)

module _ (flow : ℕ → Result Flow Refusal) (len : ℕ) (L : Listing flow len) where
  open_call : {d p n t s : ℕ} → IsPlace p → flow p ≡ Ok (Call n t s) → Open flow (suc d) p
  open_call {p = p} {t = t} z i r (stop e) = no_call_stop flow e t (rw i refl)
  open_call {p = p} {t = t} z i r (back {q = q} w h) = omega (arith, L.after_call p q t z (rw i refl) w)

  pub why_is : {d p : ℕ} {r : Refusal} → IsPlace p → Forbidden flow d p r → why_of p (flow p) ≡ r
  unfolding why_of
  why_is z (stop e) = rw e
  why_is {p = p} z (back {q = q} w h) = why_back q p (flow p) (λ t e. omega (arith, L.after_call p q t z e w)) w
  why_is {p = p} z (deep t e) = why_deep t p (flow p) e

  -- with levels left
  pub own_is : {d p : ℕ} {r : Refusal} → IsPlace p → Forbidden flow (suc d) p r → own_of p (flow p) ≡ r
  unfolding own_of
  own_is z (stop e) = rw e
  own_is {p = p} z (back {q = q} w h) = own_back q p (flow p) (λ t e. omega (arith, L.after_call p q t z e w)) w h

  pub own_over : {d p : ℕ} → Open flow d p → own_of p (flow p) ≡ TooLong p
  own_over {d} {p} o = own_open p (flow p) (λ r e. o r (stop e)) (λ q w. up flow o w)

  -- the row of p by the rows that it hangs on
  module _ (same less : ℕ → Reckoned) (d p : ℕ) (z : IsPlace p) (S : (q : ℕ) → Leads (flow p) q → p < q → HeldIs flow d q (same q))
      (B : (e t : ℕ) → d ≡ suc e → Enters (flow p) t → HeldIs flow e t (less t)) where
    row_above : (n t : ℕ) → Both (flow p) n t → p < n → p < t → HeldIs flow d p (joined (count_of (flow p)) (same n) (same t))
    unfolding joined total_of
    row_above n t T h k =
        let a = S n T.first h in
        let b = S t T.second k in
        let e : (count_of (flow p) + max (same n).figure (same t).figure) % 2 ^ 64 ≡ count_of (flow p) + max (same n).figure (same t).figure = omega (arith, held_small flow a, held_small flow b, L.few p z) in
        rw e (held_join flow n t T (open_both flow n t T h k) (λ g m. meets_in flow len L z m) a b)

    row_upward : (n t : ℕ) → Both (flow p) n t → HeldIs flow d p (upward_of same less p n t (count_of (flow p)))
    unfolding upward_of
    row_upward n t T = ⊎_elim (λ h. simp (le-leb n p h) (held_stop flow (back T.first h))) (λ h. ⊎_elim (λ k. simp (lt-leb n p h, le-leb t p k) (held_stop flow (back T.second k))) (λ k. simp (lt-leb n p h, lt-leb t p k) (row_above n t T h k)) (le_or t p)) (le_or n p)

    row_call : (x n t s : ℕ) → d ≡ x → flow p ≡ Ok (Call n t s) → HeldIs flow d p (entered_of same less d p n t (count_of (flow p)))
    unfolding entered_of called_of total_of
    row_call zero n t s h i = rw h (held_stop flow (deep t (rw i refl)))
    row_call (suc x) n t s h i =
        let w : Leads (flow p) n = rw i refl in
        let u : Enters (flow p) t = rw i refl in
        let a = B x t h u in
        let b = subst (λ (y : ℕ). HeldIs flow y n (same n)) h (S n w (L.after_call p n t z u w)) in
        let e₁ : ((less t).figure + (same n).figure) % 2 ^ 64 ≡ (less t).figure + (same n).figure = omega (arith, held_small flow a, held_small flow b) in
        let e₂ : (count_of (flow p) + ((less t).figure + (same n).figure)) % 2 ^ 64 ≡ count_of (flow p) + ((less t).figure + (same n).figure) = omega (arith, held_small flow a, held_small flow b, L.few p z) in
        rw h (simp (ne_eqb (suc x) 0 (omega arith), e₁, e₂) (held_call flow i (open_call z i) (λ g m. meets_in flow len L z m) a b))

    row_flow : (f : Result Flow Refusal) → flow p ≡ f → HeldIs flow d p (reckoned_of same less d p f)
    unfolding reckoned_of
    row_flow (Ok (Next n s)) e = rw e at (row_upward n n (rw e (both_next n s)))
    row_flow (Ok (Jump t s)) e = rw e at (row_upward t t (rw e (both_jump t s)))
    row_flow (Ok (Either n t s)) e = rw e at (row_upward n t (rw e (both_either n t s)))
    row_flow (Ok (Call n t s)) e = rw e at (row_call d n t s refl e)
    row_flow (Ok (Ends s)) e = held_ends flow e
    row_flow (Err r) e = held_stop flow (stop e)

    pub held_reckoned : HeldIs flow d p (reckoned_of same less d p (flow p))
    held_reckoned = row_flow (flow p) refl

  -- what a table is left with
  pub shown_row : {p n f : ℕ} → Held flow 8 p n f → Row flow p (shown_of p (record { figure = n; low = f })).figure (shown_of p (record { figure = n; low = f })).low
  unfolding shown_of
  shown_row {p} (totals {n = x} c l) = ⊎_elim small large (le_or x 1000000000)
    where
      small : x ≤ 1000000000 → Row flow p (shown_of p (record { figure = min x 1000000001; low = 16777215 })).figure (shown_of p (record { figure = min x 1000000001; low = 16777215 })).low
      small h = let e : min x 1000000001 ≡ x = omega arith in rw e (simp (le-ltb 1000000000 x h) (figure (record { clear = c; largest = l; held = h })))

      large : 1000000000 < x → Row flow p (shown_of p (record { figure = min x 1000000001; low = 16777215 })).figure (shown_of p (record { figure = min x 1000000001; low = 16777215 })).low
      large h = let e : min x 1000000001 ≡ 1000000001 = omega arith in rw e (over (record { total = x; clear = c; largest = l; above = h }))
  shown_row (bars w) = refused w

  module _ (table : List ℕ) where
    -- the row of a place at i or above, where the table has those of the places from i up
    pub level_at : (d i q : ℕ) → LevelFrom flow len table d i → i ≤ q → q % 2 ≡ 0 → HeldIs flow d q (level_of len table d q)
    unfolding level_of
    level_at d i q R h z = ⊎_elim (λ k. simp (le-ltb q len k) (held_outside flow len L k)) (λ k. simp (lt-ltb q len k) (R q h z k)) (le_or len q)

    pub row_at : (i q : ℕ) → RowsFrom flow len table i → i ≤ q → IsPlace q → Row flow q (row_of len table q).figure (row_of len table q).low
    unfolding row_of
    row_at i q R h z = ⊎_elim (λ k. simp (le-ltb q len k) (row_outside flow len L k)) (λ k. simp (lt-ltb q len k) (R q h z.even k)) (le_or len q)

    -- the row of p from those of the places above it, and of all with a level less
    pub row_reckoned : (d p : ℕ) → IsPlace p → LevelFrom flow len table d (p + 2) → ((e : ℕ) → d ≡ suc e → LevelFrom flow len table e 0)
        → HeldIs flow d p (reckoned_of (level_of len table d) (level_of len table (d - 1)) d p (flow p))
    row_reckoned d p z R C =
        held_reckoned (level_of len table d) (level_of len table (d - 1)) d p z
        (λ q w h. let y : IsPlace q = L.ways p q z w in level_at d (p + 2) q R (omega (arith, z.even, y.even)) y.even)
        (λ e t i u. let x : e ≡ d - 1 = omega arith in subst (λ (y : ℕ). HeldIs flow e t (level_of len table y t)) x (level_at e 0 t (C e i) (omega arith) (L.entries p t z u).even))

  -- a table in which no total is above 1,000,000,000, from the highest place down
  abbrev pub PlainFrom : List ℕ → ℕ → Type 0
  PlainFrom table i = (p : ℕ) → i ≤ p → p % 2 ≡ 0 → p < len → Held flow 8 p (get_or table p 0) (get_or table (p + 1) 0) × (get_or table p 0 ≤ 1000000000)

  module _ (table : List ℕ) where
    plain_at : (i q : ℕ) → PlainFrom table i → i ≤ q → IsPlace q → HeldIs flow 8 q (row_of len table q)
    unfolding row_of
    plain_at i q R h z = ⊎_elim (λ k. simp (le-ltb q len k) (held_outside flow len L k)) (λ k. simp (lt-ltb q len k) (R q h z.even k).0) (le_or len q)

    -- what stands at p is no call
    pub plain_down : (p : ℕ) → IsPlace p → ((t : ℕ) → Enters (flow p) t → ⊥) → PlainFrom table (p + 2)
        → reckoned_of (row_of len table) (row_of len table) 8 p (flow p) ≡ record { figure = get_or table p 0; low = get_or table (p + 1) 0 } → get_or table p 0 ≤ 1000000000 → PlainFrom table p
    plain_down p z x R e small q h y l =
        ⊎_elim
        (λ (k : q ≤ p). let i : q ≡ p = omega arith in
        subst (λ (v : ℕ). Held flow 8 v (get_or table v 0) (get_or table (v + 1) 0) × (get_or table v 0 ≤ 1000000000)) (sym i) (
          subst (λ (r : Reckoned). HeldIs flow 8 p r) e
              (held_reckoned (row_of len table) (row_of len table) 8 p z (λ q w h. let y : IsPlace q = L.ways p q z w in plain_at (p + 2) q R (omega (arith, z.even, y.even)) y) (λ e t i u. absurd (x t u))),
          small,
        ))
        (λ (k : p < q). R q (omega (arith, z.even)) y l)
        (le_or q p)

    shown_plain : {p n f : ℕ} → Held flow 8 p n f → n ≤ 1000000000 → Row flow p n f
    unfolding shown_of
    shown_plain {p} {n} {f} h k = simp (le-ltb 1000000000 n k) at (shown_row h)

    pub plain_rows : PlainFrom table 0 → RowsFrom flow len table 0
    plain_rows R p h e l = shown_plain (R p h e l).0 (R p h e l).1
