-- The longest way: followed by a table's rows it has as many states as the place's figure, and what is followed so goes on at one place.
-- Assumes nothing.
use Rattle.std.specs.Prelude.{Result, Ok, Err, Option, Some, None}
use Rattle.std.proofs.Common.{◌≡◌, ℕ, zero, suc, ◌+◌, ◌<◌, ◌≤◌, max, ◌⊎◌, List, sym, refl, ◌∙◌, inl, inr, arith, le-ltb, lt-ltb}
use Rattle.refusal.specs.declared.Refusal.{Refusal}
use Rattle.paths.specs.declared.Flow.{Flow}
use Rattle.paths.specs.declared.Flow.TheVariants.{Next, Jump, Either, Call, Ends}
use Rattle.paths.specs.Paths.{IsPlace, Leads, Enters, count_of, stop, Path, ends, goes, calls, Largest, IsFigure, Row, figure, over, refused, RowsFrom, Follows, home, on, past, NextOnTie}
use Rattle.paths.specs.MirrorRows.{row_of, better_of, toward_of, onward_of}
use Rattle.paths.proofs.Laws.{le_or, Both, both_next, both_jump, both_either, Listing, up, no_way_ends, clear_open, clear_on, clear_into, clear_in, call_largest, largest_one, largest_join, largest_ends}
use Rattle.paths.proofs.Levels.{path_down, clear_up, level_less}
use Rattle.paths.proofs.Owed.{clear_path}
use Rattle.paths.proofs.Rows.{row_at}

module _ (flow : ℕ → Result Flow Refusal) (len : ℕ) (L : Listing flow len) (table : List ℕ) (R : RowsFrom flow len table 0) where
  abbrev figure_at : ℕ → ℕ
  figure_at q = (row_of len table q).figure

  -- what follows a place that has a figure has one, and so has the routine that it calls: the table's, whatever the levels left
  on_row : {p total q n f : ℕ} → IsFigure flow p total → ((t : ℕ) → Enters (flow p) t → ⊥) → Leads (flow p) q → Row flow q n f → IsFigure flow q n
  on_row c ne w (figure x) = x
  on_row c ne w (over v) = absurd (omega (arith, c.held, v.above, c.largest.most _ (goes (clear_open flow c.clear) ne w v.largest.some)))
  on_row c ne w (refused x) = absurd (clear_on flow c.clear w _ x.met)

  past_row : {p total q t m n f : ℕ} → IsFigure flow p total → Enters (flow p) t → Leads (flow p) q → Path flow 7 t m → Row flow q n f → IsFigure flow q n
  past_row c e w r (figure x) = x
  past_row c e w r (over v) = absurd (omega (arith, c.held, v.above, c.largest.most _ (calls e r w (clear_open flow c.clear) v.largest.some)))
  past_row c e w r (refused x) = absurd (clear_on flow c.clear w _ x.met)

  in_row : {p total q t m n f : ℕ} → IsFigure flow p total → Enters (flow p) t → Leads (flow p) q → Path flow 8 q m → Row flow t n f → Largest flow 7 t n
  in_row c e w r (figure x) = level_less flow (clear_into flow c.clear e) x.largest
  in_row c e w r (over v) =
      absurd (omega (arith, c.held, v.above, c.largest.most _ (calls e (path_down flow v.largest.some 7 refl (clear_into flow c.clear e)) w (clear_open flow c.clear) r)))
  in_row c e w r (refused x) = absurd (clear_up flow (clear_into flow c.clear e) _ x.met)

  module _ (p total : ℕ) (z : IsPlace p) (c : IsFigure flow p total) where
    row : (q : ℕ) → IsPlace q → Row flow q (figure_at q) (row_of len table q).low
    row q y = row_at flow len L table 0 q R (omega arith) y

    on_figure : (q : ℕ) → ((t : ℕ) → Enters (flow p) t → ⊥) → Leads (flow p) q → IsFigure flow q (figure_at q)
    on_figure q ne w = on_row c ne w (row q (L.ways p q z w))

    past_figure : (q t : ℕ) → Enters (flow p) t → Leads (flow p) q → IsFigure flow q (figure_at q)
    past_figure q t e w = past_row c e w (clear_path flow len L.outside 7 t (clear_into flow c.clear e)).1 (row q (L.ways p q z w))

    -- what a call's routine costs stands in the table
    pub routine_figure : (q t : ℕ) → Enters (flow p) t → Leads (flow p) q → Largest flow 7 t (figure_at t)
    routine_figure q t e w = in_row c e w (past_figure q t e w).largest.some (row t (L.entries p t z e))

    total_is : (n t : ℕ) → Both (flow p) n t → total ≡ count_of (flow p) + max (figure_at n) (figure_at t)
    total_is n t B = largest_one flow c.largest (largest_join flow n t B (clear_open flow c.clear) (on_figure n B.plain B.first).largest (on_figure t B.plain B.second).largest)

  module _ (next : ℕ → Result (Option ℕ) Refusal) (same : (p n : ℕ) → IsPlace p → IsFigure flow p n → next p ≡ onward_of len table (flow p)) where
    -- followed from a place with a figure, the longest way has so many states
    module _ (p total : ℕ) (z : IsPlace p) (c : IsFigure flow p total) (rest : (q : ℕ) → Leads (flow p) q → IsFigure flow q (figure_at q) → Follows flow next q (figure_at q)) where
      follow : (q : ℕ) → next p ≡ Ok (Some q) → ((t : ℕ) → Enters (flow p) t → ⊥) → Leads (flow p) q → total ≡ count_of (flow p) + figure_at q → Follows flow next p total
      follow q e ne w i = rw i (on e (clear_open flow c.clear) ne w (rest q w (on_figure p total z c q ne w)))

      either : (n t : ℕ) → Both (flow p) n t → next p ≡ Ok (Some (better_of len table n t)) → Follows flow next p total
      unfolding better_of
      either n t B e = go (le_or (figure_at t) (figure_at n))
        where
          go : (figure_at t ≤ figure_at n) ⊎ (figure_at n < figure_at t) → Follows flow next p total
          go (inl h) = follow n (simp (le-ltb (figure_at n) (figure_at t) h) at e) B.plain B.first (omega (arith, total_is p total z c n t B))
          go (inr h) = follow t (simp (lt-ltb (figure_at n) (figure_at t) h) at e) B.plain B.second (omega (arith, total_is p total z c n t B))

      call : (n t s : ℕ) → flow p ≡ Ok (Call n t s) → next p ≡ Ok (Some n) → Follows flow next p total
      call n t s i e =
          let w : Leads (flow p) n = rw i refl in
          let u : Enters (flow p) t = rw i refl in
          let a = routine_figure p total z c n t u w in
          let b = past_figure p total z c n t u w in
          let h : total ≡ count_of (flow p) + figure_at t + figure_at n = largest_one flow c.largest (call_largest flow i (clear_open flow c.clear) a b.largest) in
          rw h (past e (clear_open flow c.clear) u a w (rest n w b))

      follow_flow : (f : Result Flow Refusal) → flow p ≡ f → next p ≡ onward_of len table f → Follows flow next p total
      unfolding onward_of toward_of
      follow_flow (Ok (Next n s)) e i = let B : Both (flow p) n n = rw e (both_next n s) in follow n i B.plain (rw e refl) (omega (arith, total_is p total z c n n B))
      follow_flow (Ok (Jump t s)) e i = let B : Both (flow p) t t = rw e (both_jump t s) in follow t i B.plain (rw e refl) (omega (arith, total_is p total z c t t B))
      follow_flow (Ok (Either n t s)) e i = either n t (rw e (both_either n t s)) i
      follow_flow (Ok (Call n t s)) e i = call n t s e i
      follow_flow (Ok (Ends s)) e i = let h : total ≡ s = largest_one flow c.largest (largest_ends flow e) in rw h (home i e)
      follow_flow (Err r) e i = absurd (clear_open flow c.clear r (stop e))

    follows_in : (k p total : ℕ) → len ≤ p + k → IsPlace p → IsFigure flow p total → Follows flow next p total
    follows_in zero p total h z c = absurd (let i : p < len = clear_in flow len L c.clear in omega arith)
    follows_in (suc k) p total h z c =
        follow_flow p total z c (λ q w x. let i : p < q = up flow (clear_open flow c.clear) w in follows_in k q (figure_at q) (omega arith) (L.ways p q z w) x) (flow p) refl (same p total z c)

    pub follows : (p total : ℕ) → IsPlace p → IsFigure flow p total → Follows flow next p total
    follows p total z c = follows_in len p total (omega arith) z c

    -- and where both ways have the same figure it goes on at the next instruction
    pub next_on_tie : (p total : ℕ) → IsPlace p → IsFigure flow p total → NextOnTie flow p (next p)
    unfolding onward_of toward_of better_of
    next_on_tie p total z c n t s m e l k =
        let B : Both (flow p) n t = rw e (both_either n t s) in
        let first : figure_at n ≡ m = largest_one flow (on_figure p total z c n B.plain B.first).largest l in
        let second : figure_at t ≡ m = largest_one flow (on_figure p total z c t B.plain B.second).largest k in
        same p total z c ∙ rw (e, le-ltb (figure_at n) (figure_at t) (omega arith))

-- what is followed is a path
pub follows_path : {flow : ℕ → Result Flow Refusal} {next : ℕ → Result (Option ℕ) Refusal} {p n : ℕ} → Follows flow next p n → Path flow 8 p n
follows_path (home i e) = ends e
follows_path (on i o ne w r) = goes o ne w (follows_path r)
follows_path (past i o e l w r) = calls e l.some w o (follows_path r)

module _ (flow : ℕ → Result Flow Refusal) {p total : ℕ} (l : Largest flow 8 p total) where
  -- how a way to the largest total begins
  data Begins (way : Result (Option ℕ) Refusal) : Type 0 where
    returns : way ≡ Ok None → flow p ≡ Ok (Ends total) → Begins way
    leads : (q m : ℕ) → way ≡ Ok (Some q) → ((t : ℕ) → Enters (flow p) t → ⊥) → Leads (flow p) q → Largest flow 8 q m → total ≡ count_of (flow p) + m → Begins way
    passes : (q t : ℕ) → way ≡ Ok (Some q) → Enters (flow p) t → Leads (flow p) q → Begins way

  begins : {next : ℕ → Result (Option ℕ) Refusal} → Follows flow next p total → Begins (next p)
  begins f = go f refl
    where
      go : {next : ℕ → Result (Option ℕ) Refusal} {n : ℕ} → Follows flow next p n → n ≡ total → Begins (next p)
      go (home i e) h = returns i (e ∙ rw h)
      go (on {q = q} {n = m} i o ne w r) h =
          leads q m i ne w (record { some = follows_path r; most = λ k x. let y = l.most _ (goes o ne w x) in omega arith }) (sym h)
      go (past {q = q} {t = t} i o e x w r) h = passes q t i e w

  module _ (way way' : Result (Option ℕ) Refusal) (t : NextOnTie flow p way) (t' : NextOnTie flow p way') where
    on_one : {q q' m : ℕ} (f : Result Flow Refusal) → flow p ≡ f → Leads f q → Leads f q' → Largest flow 8 q m → Largest flow 8 q' m → way ≡ Ok (Some q) → way' ≡ Ok (Some q') → way ≡ way'
    on_one (Ok (Next n s)) e w w' x x' i i' = cc
    on_one (Ok (Jump n s)) e w w' x x' i i' = cc
    on_one (Ok (Either n k s)) e (inl w) (inl w') x x' i i' = cc
    on_one (Ok (Either n k s)) e (inr w) (inr w') x x' i i' = cc
    on_one {m = m} (Ok (Either n k s)) e (inl w) (inr w') x x' i i' = cc (t n k s m e (rw w at x) (rw w' at x'), t' n k s m e (rw w at x) (rw w' at x'))
    on_one {m = m} (Ok (Either n k s)) e (inr w) (inl w') x x' i i' = cc (t n k s m e (rw w' at x') (rw w at x), t' n k s m e (rw w' at x') (rw w at x))
    on_one (Ok (Call n k s)) e w w' x x' i i' = cc
    on_one (Ok (Ends s)) e w w' x x' i i' = absurd w
    on_one (Err r) e w w' x x' i i' = absurd w

    past_one : {q q' : ℕ} (u : ℕ) (f : Result Flow Refusal) → Enters f u → Leads f q → Leads f q' → way ≡ Ok (Some q) → way' ≡ Ok (Some q') → way ≡ way'
    past_one u (Ok (Next n s)) e w w' i i' = absurd e
    past_one u (Ok (Jump n s)) e w w' i i' = absurd e
    past_one u (Ok (Either n k s)) e w w' i i' = absurd e
    past_one u (Ok (Call n k s)) e w w' i i' = cc
    past_one u (Ok (Ends s)) e w w' i i' = absurd e
    past_one u (Err r) e w w' i i' = absurd e

    way_one : Begins way → Begins way' → way ≡ way'
    way_one (returns i e) (returns i' e') = cc
    way_one (returns i e) (leads q m i' ne w x h) = absurd (no_way_ends flow e q w)
    way_one (returns i e) (passes q u i' y w) = absurd (no_way_ends flow e q w)
    way_one (leads q m i ne w x h) (returns i' e) = absurd (no_way_ends flow e q w)
    way_one (leads q m i ne w x h) (leads q' m' i' ne' w' x' h') =
        let same : m' ≡ m = omega arith in
        on_one (flow p) refl w w' x (rw same at x') i i'
    way_one (leads q m i ne w x h) (passes q' u i' y w') = absurd (ne u y)
    way_one (passes q u i y w) (returns i' e) = absurd (no_way_ends flow e q w)
    way_one (passes q u i y w) (leads q' m i' ne w' x h) = absurd (ne u y)
    way_one (passes q u i y w) (passes q' u' i' y' w') = past_one u (flow p) y w w' i i'

  pub follows_one : {next next' : ℕ → Result (Option ℕ) Refusal} → Follows flow next p total → Follows flow next' p total → NextOnTie flow p (next p) → NextOnTie flow p (next' p) → next p ≡ next' p
  follows_one {next} {next'} f f' t t' = way_one (next p) (next' p) t t' (begins f) (begins f')
