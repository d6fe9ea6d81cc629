-- What `way` answers, by a table that `figure` filled.
-- Assumes nothing.
use Rattle.std.specs.Prelude.{Ok, Err, Result, Option}
use mathlib.Core.Path.{◌≡◌, refl, sym, subst, ◌∙◌}
use mathlib.Core.Logic.{◌⊎◌, inl, inr, ⊎_elim}
use mathlib.Core.List.{List}
use mathlib.Core.Bool.{true}
use Prim.Native.Nat.{ℕ, ◌≤◌, ◌<◌}
use native.Mathlib.Omega.{arith}
use lib.ListN.{length}
use borrow.Author.Tests.{eq-eqb, ne_eqb, lt-ltb, le-leb}
use Rattle.refusal.specs.declared.Refusal.{Refusal}
use Rattle.refusal.specs.declared.Refusal.TheVariants.{NotUpward, TooLong}
use Rattle.codes.specs.Exact.{Bytes}
use Rattle.site.specs.declared.Site.{Site}
use Rattle.memory.specs.Board.{could_carry}
use Rattle.paths.specs.declared.Flow.{Flow}
use Rattle.paths.specs.declared.Flow.TheVariants.{Next, Jump, Either, Call, Ends}
use Rattle.paths.specs.Paths.{IsPlace, Leads, Forbidden, stop, back, Open, Lowest, IsFigure, Row, figure, over, refused, RowsFrom, Follows, NextOnTie}
use Rattle.paths.specs.MirrorRows.{row_of, onward_of}
use Rattle.paths.proofs.Laws.{le_or, Listing, row_one, forbidden_one, meets_forbidden, meets_place, meets_in, clear_open, clear_in}
use Rattle.paths.proofs.Rows.{own_is, own_over, row_at}
use Rattle.paths.proofs.Ways.{follows, next_on_tie, follows_one}
use Rattle.listing.specs.Listing.{flow_at}
use Rattle.listing.proofs.Listed.{listing}
use Rattle.figure.specs.Answer.{asked_of}
use Rattle.figure.specs.MirrorFigure.{no_way_of, on_from, way_asked, way_of}
use Rattle.figure.specs.Longest.{ByTable, WayTold}
use Rattle.figure.proofs.Answered.{Good, fit_good, even, small, good_place, why_lowest}

good_fit : {k : Site} {len lent entry : ℕ} → Good k len lent entry → asked_of k len lent entry ≡ Ok tt
unfolding asked_of
good_fit g = simp (g.carried, eq-eqb _ _ g.entry_even, lt-ltb _ _ g.entry_in, le-leb _ _ g.room)

-- a place is forbidden with levels left, or is not
module _ (flow : ℕ → Result Flow Refusal) (p : ℕ) where
  upward : (f : Result Flow Refusal) → flow p ≡ f → ((r : Refusal) → f ≡ Err r → ⊥) → ((q : ℕ) → Leads f q → p < q) → Open flow 8 p
  upward f e x w r (stop i) = x r (sym e ∙ i)
  upward f e x w r (back {q = q} l h) = omega (arith, w q (subst (λ (g : Result Flow Refusal). Leads g q) e l))

  pub open_or : Open flow 8 p ⊎ ((r : Refusal) × Forbidden flow 8 p r)
  open_or = at (flow p) refl
    where
      down : (q : ℕ) → Leads (flow p) q → q ≤ p → (r : Refusal) × Forbidden flow 8 p r
      down q w h = (NotUpward p, back w h)

      at : (f : Result Flow Refusal) → flow p ≡ f → Open flow 8 p ⊎ ((r : Refusal) × Forbidden flow 8 p r)
      at (Ok (Next n s)) e = ⊎_elim (λ h. inr (down n (rw e refl) h)) (λ h. inl (upward (Ok (Next n s)) e (λ r i. let z : ◌≡◌ {A = ℕ} 0 1 = cc in omega arith) (λ q w. omega arith))) (le_or n p)
      at (Ok (Jump n s)) e = ⊎_elim (λ h. inr (down n (rw e refl) h)) (λ h. inl (upward (Ok (Jump n s)) e (λ r i. let z : ◌≡◌ {A = ℕ} 0 1 = cc in omega arith) (λ q w. omega arith))) (le_or n p)
      at (Ok (Either n t s)) e =
          ⊎_elim (λ h. inr (down n (rw e (inl refl)) h)) (λ h. ⊎_elim (λ k. inr (down t (rw e (inr refl)) k)) (λ k. inl (upward (Ok (Either n t s)) e (λ r i. let z : ◌≡◌ {A = ℕ} 0 1 = cc in omega arith) (λ q w. ⊎_elim (λ (y : q ≡ n). omega arith) (λ (y : q ≡ t). omega arith) w))) (le_or t p)) (le_or n p)
      at (Ok (Call n t s)) e = ⊎_elim (λ h. inr (down n (rw e refl) h)) (λ h. inl (upward (Ok (Call n t s)) e (λ r i. let z : ◌≡◌ {A = ℕ} 0 1 = cc in omega arith) (λ q w. omega arith))) (le_or n p)
      at (Ok (Ends s)) e = inl (upward (Ok (Ends s)) e (λ r i. let z : ◌≡◌ {A = ℕ} 0 1 = cc in omega arith) (λ q w. absurd w))
      at (Err r) e = inr (r, stop e)

module _ (k : Site) (rom : List ℕ) (bytes : Bytes rom) (table : List ℕ) where
  fit_way : (place : ℕ) → asked_of k (length rom) (length table) place ≡ Ok tt → way_of k rom table place ≡ on_from (flow_at k rom) (length rom) table place (row_of (length rom) table place)
  unfolding way_of way_asked
  fit_way place e = rw e

  pub unfit_way : (place : ℕ) (f : Refusal) → asked_of k (length rom) (length table) place ≡ Err f → way_of k rom table place ≡ Err f
  unfolding way_of way_asked
  unfit_way place f e = rw e

  module _ (carried : could_carry k (length rom) ≡ true) (room : length rom ≤ length table) (R : RowsFrom (flow_at k rom) (length rom) table 0) where
    L : Listing (flow_at k rom) (length rom)
    L = listing k rom bytes (even k (length rom) carried) (small k (length rom) carried)

    row : (p : ℕ) → IsPlace p → Row (flow_at k rom) p (row_of (length rom) table p).figure (row_of (length rom) table p).low
    row p z = row_at (flow_at k rom) (length rom) L table 0 p R (omega arith) z

    figure_way : (p n : ℕ) → IsPlace p → IsFigure (flow_at k rom) p n → way_of k rom table p ≡ onward_of (length rom) table (flow_at k rom p)
    unfolding on_from
    figure_way p n z c =
        fit_way p (good_fit (record { carried = carried; entry_even = z.even; entry_in = clear_in (flow_at k rom) (length rom) L c.clear; room = room }))
        ∙ simp (eq-eqb (row_of (length rom) table p).low 16777215 (row_one (flow_at k rom) (row p z) (figure c)).1)

    module _ (p : ℕ) (fit : asked_of k (length rom) (length table) p ≡ Ok tt) (z : IsPlace p) where
      no_way : (f : ℕ) (r : Refusal) → f < 16777215 → Row (flow_at k rom) p 0 f → no_way_of (flow_at k rom) p f ≡ r → way_of k rom table p ≡ Err r
      unfolding on_from
      no_way f r h w e = let i : (row_of (length rom) table p).low ≡ f = (row_one (flow_at k rom) (row p z) w).1 in fit_way p fit ∙ simp (i, ne_eqb f 16777215 (omega arith), e)

      own_way : (r : Refusal) → Row (flow_at k rom) p 0 p → Forbidden (flow_at k rom) 8 p r → way_of k rom table p ≡ Err r
      unfolding no_way_of
      own_way r w b = no_way p r (omega (arith, z.even, z.in_range)) w (simp (eq-eqb p p refl) (own_is (flow_at k rom) (length rom) L z b))

      over_way : Row (flow_at k rom) p 0 p → Open (flow_at k rom) 8 p → way_of k rom table p ≡ Err (TooLong p)
      unfolding no_way_of
      over_way w o = no_way p (TooLong p) (omega (arith, z.even, z.in_range)) w (simp (eq-eqb p p refl) (own_over (flow_at k rom) (length rom) L o))

      other_way : (d f : ℕ) (r : Refusal) → Lowest (flow_at k rom) 8 p f → Forbidden (flow_at k rom) d f r → (f ≡ p → ⊥) → way_of k rom table p ≡ Err r
      unfolding no_way_of
      other_way d f r w b ne = no_way f r (meets_in (flow_at k rom) (length rom) L z w.met) (refused w) (simp (ne_eqb f p ne) (why_lowest (flow_at k rom) (length rom) L (meets_place (flow_at k rom) (length rom) L z w.met) b))

      refused_way : (d f : ℕ) (r : Refusal) → Lowest (flow_at k rom) 8 p f → Forbidden (flow_at k rom) d f r → (f ≡ p → Open (flow_at k rom) 8 p → ⊥) → way_of k rom table p ≡ Err r
      refused_way d f r w b x = ⊎_elim (λ h. ⊎_elim (λ j. same (omega arith)) (λ j. other_way d f r w b (λ e. omega arith)) (le_or p f)) (λ h. other_way d f r w b (λ e. omega arith)) (le_or f p)
        where
          same : f ≡ p → way_of k rom table p ≡ Err r
          same e =
              ⊎_elim (λ o. absurd (x e o))
              (λ y. let i : y.0 ≡ r = forbidden_one (flow_at k rom) (length rom) L z y.1 (subst (λ (v : ℕ). Forbidden (flow_at k rom) d v r) e b) in
              own_way r (subst (λ (v : ℕ). Row (flow_at k rom) p 0 v) e (refused w)) (subst (λ (v : Refusal). Forbidden (flow_at k rom) 8 p v) i y.1))
              (open_or (flow_at k rom) p)

  module _ (place : ℕ) (b : ByTable k rom table place) where
    good : Good k (length rom) (length table) place
    good = fit_good k (length rom) (length table) place b.0

    told_longest : (n : ℕ) → IsFigure (flow_at k rom) place n → Follows (flow_at k rom) (way_of k rom table) place n
    told_longest n c = follows (flow_at k rom) (length rom) (L good.carried good.room b.1) table b.1 (way_of k rom table) (figure_way good.carried good.room b.1) place n (good_place good) c

    told_tie : (n : ℕ) → IsFigure (flow_at k rom) place n → NextOnTie (flow_at k rom) place (way_of k rom table place)
    told_tie n c = next_on_tie (flow_at k rom) (length rom) (L good.carried good.room b.1) table b.1 (way_of k rom table) (figure_way good.carried good.room b.1) place n (good_place good) c

    told_over : Row (flow_at k rom) place 0 place → Open (flow_at k rom) 8 place → way_of k rom table place ≡ Err (TooLong place)
    told_over w o = over_way good.carried good.room b.1 place b.0 (good_place good) w o

    told_refused : (d f : ℕ) (r : Refusal) → Lowest (flow_at k rom) 8 place f → Forbidden (flow_at k rom) d f r → (f ≡ place → Open (flow_at k rom) 8 place → ⊥) → way_of k rom table place ≡ Err r
    told_refused = refused_way good.carried good.room b.1 place b.0 (good_place good)

  pub way_told : (place : ℕ) → WayTold k rom table (way_of k rom table) place
  way_told place = record {
    unfit = λ f e. unfit_way place f e;
    longest = λ b n c. told_longest place b n c;
    tie = λ b n c. told_tie place b n c;
    over = λ b v. told_over place b (over v) (clear_open (flow_at k rom) v.clear);
    refused = λ b d f r w x y. told_refused place b d f r w x y;
    own = λ b w o. told_over place b (refused w) o;
  }

-- by a table that `figure` filled, `WayTold` leaves one answer
pub way_one : {k : Site} {rom table : List ℕ} {next next' : ℕ → Result (Option ℕ) Refusal} {place : ℕ} → ByTable k rom table place → WayTold k rom table next place → WayTold k rom table next' place
    → next place ≡ next' place
way_one {k} {rom} {table} {next} {next'} {place} b w w' =
    let g = fit_good k (length rom) (length table) place b.0 in by_row (b.1 place (omega arith) g.entry_even g.entry_in)
  where
    lowest : (f : ℕ) → Lowest (flow_at k rom) 8 place f → (f ≡ place → Open (flow_at k rom) 8 place → ⊥) → next place ≡ next' place
    lowest f x y = let (d, r, z) = meets_forbidden (flow_at k rom) x.met in w.refused b d f r x z y ∙ sym (w'.refused b d f r x z y)

    by-lowest : (f : ℕ) → Lowest (flow_at k rom) 8 place f → next place ≡ next' place
    by-lowest f x =
        ⊎_elim
        (λ o. ⊎_elim (λ h. ⊎_elim (λ j. itself o (omega arith)) (λ j. lowest f x (λ e. absurd (omega arith))) (le_or place f)) (λ h. lowest f x (λ e. absurd (omega arith))) (le_or f place))
        (λ y. lowest f x (λ e o. o y.0 y.1))
        (open_or (flow_at k rom) place)
      where
        itself : Open (flow_at k rom) 8 place → f ≡ place → next place ≡ next' place
        itself o e = let x' = subst (λ (v : ℕ). Lowest (flow_at k rom) 8 place v) e x in w.own b x' o ∙ sym (w'.own b x' o)

    by_row : {n f : ℕ} → Row (flow_at k rom) place n f → next place ≡ next' place
    by_row (figure {n = n} c) = follows_one (flow_at k rom) c.largest (w.longest b n c) (w'.longest b n c) (w.tie b n c) (w'.tie b n c)
    by_row (over v) = w.over b v ∙ sym (w'.over b v)
    by_row (refused {f = f} x) = by-lowest f x
