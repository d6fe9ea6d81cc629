-- The answer by the entry's row, and that `Figured` leaves one answer and one table.
-- Assumes nothing.
use Rattle.std.specs.Prelude.{Result, Ok, Err}
use mathlib.Core.Path.{◌≡◌, refl, sym, subst, ap, ◌∙◌}
use mathlib.Core.Logic.{◌⊎◌, inl, inr, ◌↔◌, ⊎_elim}
use mathlib.Core.List.{List}
use mathlib.Core.Bool.{Bool, true, false, cond, ◌&&◌}
use Prim.Native.Nat.{ℕ, ◌+◌, ◌-◌, ◌%◌, ◌≤◌, ◌<◌, min}
use native.Mathlib.Omega.{arith}
use lib.ListN.{length, get_or}
use lib.Seq.{ext_get_or}
use lib.Dec.{ltb, leb, eqb}
use borrow.Author.Tests.{eq-eqb, ne_eqb, eqb-true, leb-true, le-leb, ltb-true, lt-ltb, le-ltb}
use Rattle.refusal.specs.declared.Refusal.{Refusal}
use Rattle.refusal.specs.declared.Refusal.TheVariants.{BadBoard, BadEntry, LentTooShort, TooLong}
use Rattle.codes.specs.Exact.{Bytes}
use Rattle.site.specs.declared.Site.{Site}
use Rattle.site.specs.Costs.{no_ports}
use Rattle.memory.specs.declared.Board.{Board}
use Rattle.memory.specs.Board as Memory
use Rattle.memory.specs.Board.{good_code, could_carry}
use Rattle.memory.proofs.Laws.{good}
use Rattle.memory.proofs.Carried.{carries}
use Rattle.paths.specs.declared.Flow.{Flow}
use Rattle.paths.specs.declared.Reckoned.{Reckoned}
use Rattle.paths.specs.Paths.{IsPlace, Forbidden, Meets, IsFigure, Over}
use Rattle.paths.specs.Levels.{Held, totals, bars, HeldIs}
use Rattle.paths.proofs.Laws.{le_or, Listing, forbidden_one, largest_one, lowest_one, figure_over, row_one, meets_forbidden, meets_place, meets_in}
use Rattle.paths.proofs.Rows.{why_is}
use Rattle.levels.specs.Levels.{Filled, fitting}
use Rattle.listing.specs.Listing.{flow_at}
use Rattle.listing.proofs.Listed.{listing}
use Rattle.figure.specs.Answer.{good_entry, asked_of, Told, longest, too_long, forbids, InOrder, Figured, RefusedExactly}
use Rattle.figure.specs.MirrorFigure.{why_at, figure_of, verdict_of}

-- what a fit site, memory, entry and table are
pub record Good (k : Site) (len lent entry : ℕ) : Type 0 where
  pub carried : could_carry k len ≡ true
  pub entry_even : entry % 2 ≡ 0
  pub entry_in : entry < len
  pub room : len ≤ lent

left : (x y : Bool) → (x && y) ≡ true → x ≡ true
left true y e = refl
left false y e = e

right : (x y : Bool) → (x && y) ≡ true → y ≡ true
right true y e = e
right false y e = absurd (let z : ◌≡◌ {A = ℕ} 0 1 = cc in omega arith)

pub fit_good : (k : Site) (len lent entry : ℕ) → asked_of k len lent entry ≡ Ok tt → Good k len lent entry
unfolding asked_of
fit_good k len lent entry e = go (could_carry k len) refl (good_entry len entry) refl (leb len lent) refl e
  where
    go : (a : Bool) → could_carry k len ≡ a → (b : Bool) → good_entry len entry ≡ b → (c : Bool) → leb len lent ≡ c → cond a (cond b (cond c (Ok (tt {0})) (Err (LentTooShort len))) (Err (BadEntry entry))) (Err BadBoard) ≡ Ok (tt {0}) → Good k len lent entry
    go true x true y true z i = record {
      carried = x;
      entry_even = eqb-true (entry % 2) 0 (left (eqb (entry % 2) 0) (ltb entry len) y);
      entry_in = ltb-true entry len (right (eqb (entry % 2) 0) (ltb entry len) y);
      room = leb-true len lent z;
    }
    go true x true y false z i = absurd (let k : ◌≡◌ {A = ℕ} 0 1 = cc in omega arith)
    go true x false y c z i = absurd (let k : ◌≡◌ {A = ℕ} 0 1 = cc in omega arith)
    go false x b y c z i = absurd (let k : ◌≡◌ {A = ℕ} 0 1 = cc in omega arith)

-- code that some board carries has an even length up to 524,288
module _ (k : Site) (len : ℕ) (carried : could_carry k len ≡ true) where
  code : (b : Board) × (ram : ℕ) × Memory.Good b len ram
  code = let (b, ram, is, g) = carries len k carried in (b, ram, good b len ram g)

  pub even : len % 2 ≡ 0
  even = code.2.rom_even

  pub small : len ≤ 524288
  small = code.2.rom_most

-- without ports only the code's length is looked at
pub bare_carried : (len : ℕ) → good_code len ≡ true → could_carry no_ports len ≡ true
unfolding could_carry
bare_carried len e =
    let x = left (eqb (len % 2) 0) (leb len 524288) e in
    let y = right (eqb (len % 2) 0) (leb len 524288) e in
    let h = leb-true len 524288 y in
    rw (x, y, le-leb len 16777216 (omega arith))

pub good_place : {k : Site} {len lent entry : ℕ} → Good k len lent entry → IsPlace entry
good_place {k} {len} g = record { even = g.entry_even; in_range = omega (arith, small k len g.carried, g.entry_in) }

-- what is fit to be looked at can be filled
pub good_fitting : {k : Site} {len lent entry : ℕ} → Good k len lent entry → fitting len lent entry ≡ true
unfolding fitting
good_fitting {k} {len} {lent} {entry} g = simp (eq-eqb (len % 2) 0 (even k len g.carried), le-leb len 524288 (small k len g.carried), le-leb len lent g.room, eq-eqb (entry % 2) 0 g.entry_even)

module _ (flow : ℕ → Result Flow Refusal) (len : ℕ) (L : Listing flow len) where
  -- the lowest forbidden place is forbidden by what is said of it
  pub why_lowest : {d f : ℕ} {r : Refusal} → IsPlace f → Forbidden flow d f r → why_at flow f ≡ r
  unfolding why_at
  why_lowest {f = f} z b = let e : f % 16777216 ≡ f = omega (arith, z.in_range) in rw e (why_is flow len L z b)

  told_total : {entry n : ℕ} → IsFigure flow entry n ⊎ Over flow entry → (m : ℕ) → ((x : IsFigure flow entry n) → m ≡ n) → (Over flow entry → 1000000000 < m) → Told flow entry (figure_of entry m)
  unfolding figure_of
  told_total {n = n} (inl c) m x y = rw (x c) (simp (le-ltb 1000000000 n c.held) (longest c))
  told_total (inr v) m x y = simp (lt-ltb 1000000000 m (y v)) (too_long v)

  pub told_row : {entry n f : ℕ} → IsPlace entry → Held flow 8 entry n f → Told flow entry (verdict_of flow entry (record { figure = n; low = f }))
  unfolding verdict_of
  told_row {entry} z (totals {n = x} c l) =
      told_total {entry = entry} {n = x} (⊎_elim (λ h. inl (record { clear = c; largest = l; held = h })) (λ h. inr (record { total = x; clear = c; largest = l; above = h })) (le_or x 1000000000))
      (min x 1000000001) (λ c. omega (arith, c.held)) (λ v. omega (arith, v.above, largest_one flow l v.largest))
  told_row z (bars {f = f} w) =
      let h : f < 16777215 = meets_in flow len L z w.met in
      let b = meets_forbidden flow w.met in
      simp (ne_eqb f 16777215 (omega arith), why_lowest (meets_place flow len L z w.met) b.2) (forbids w b.2)

-- by the refusals for bad input, and else by the entry's row and the filled table
module _ (k : Site) (rom : List ℕ) where
  pub figured_unfit : (entry : ℕ) (t : List ℕ) (f : Refusal) → asked_of k (length rom) (length t) entry ≡ Err f → Figured k rom entry t (Err f) t
  figured_unfit entry t f e = record { in_order = rw e (refl, refl) }

  pub good_listing : Bytes rom → {lent entry : ℕ} → Good k (length rom) lent entry → Listing (flow_at k rom) (length rom)
  good_listing b g = listing k rom b (even k (length rom) g.carried) (small k (length rom) g.carried)

  pub figured_fit : Bytes rom → (entry : ℕ) (t after : List ℕ) (r : Reckoned) → asked_of k (length rom) (length t) entry ≡ Ok tt → HeldIs (flow_at k rom) 8 entry r → Filled (flow_at k rom) (length rom) t after
      → Figured k rom entry t (verdict_of (flow_at k rom) entry r) after
  figured_fit b entry t after r e h f =
      let g = fit_good k (length rom) (length t) entry e in
      record { in_order = rw e (told_row (flow_at k rom) (length rom) (good_listing b g) (good_place g) h, f) }

-- one answer, and one table
module _ (flow : ℕ → Result Flow Refusal) where
  told_one : {len entry : ℕ} {r r' : Result ℕ Refusal} → Listing flow len → IsPlace entry → Told flow entry r → Told flow entry r' → r ≡ r'
  told_one L z (longest c) (longest c') = ap Ok (largest_one flow c.largest c'.largest)
  told_one L z (longest c) (too_long v) = absurd (figure_over flow c v)
  told_one L z (longest c) (forbids w b) = absurd (c.clear _ w.met)
  told_one L z (too_long v) (longest c) = absurd (figure_over flow c v)
  told_one L z (too_long v) (too_long v') = refl
  told_one L z (too_long v) (forbids w b) = absurd (v.clear _ w.met)
  told_one L z (forbids w b) (longest c) = absurd (c.clear _ w.met)
  told_one L z (forbids w b) (too_long v) = absurd (v.clear _ w.met)
  told_one {len} L z (forbids {f = f} w b) (forbids {d = d} {f = g} {r = s} w' b') =
      let e : f ≡ g = lowest_one flow w w' in
      ap Err (forbidden_one flow len L (meets_place flow len L z w.met) b (subst (λ (x : ℕ). Forbidden flow d x s) (sym e) b'))

  filled_one : {len : ℕ} {before a b : List ℕ} → len % 2 ≡ 0 → Filled flow len before a → Filled flow len before b → a ≡ b
  filled_one {len} {before} {a} {b} even f g =
      ext_get_or 0 a b (f.same_length ∙ sym g.same_length) (λ i h. ⊎_elim (λ l. f.rest i l ∙ sym (g.rest i l)) (λ l. below i l) (le_or len i))
    where
      both : (p : ℕ) → p % 2 ≡ 0 → p < len → (get_or a p 0 ≡ get_or b p 0) × (get_or a (p + 1) 0 ≡ get_or b (p + 1) 0)
      both p e l = row_one flow (f.rows p (omega arith) e l) (g.rows p (omega arith) e l)

      below : (i : ℕ) → i < len → get_or a i 0 ≡ get_or b i 0
      below i l = ⊎_elim (λ z. (both i (omega arith) l).0) (λ z. subst (λ (x : ℕ). get_or a x 0 ≡ get_or b x 0) (odd z) (both (i - 1) (omega arith) (omega arith)).1) (le_or (i % 2) 0)
        where
          odd : 0 < i % 2 → i - 1 + 1 ≡ i
          odd z = omega arith

  in_order_one : (x : Result (Unit {0}) Refusal) (len entry : ℕ) (t : List ℕ) {r r' : Result ℕ Refusal} {a a' : List ℕ} → (x ≡ Ok tt → Listing flow len × IsPlace entry)
      → InOrder x flow len entry t r a → InOrder x flow len entry t r' a' → (r ≡ r') × (a ≡ a')
  in_order_one (Err f) len entry t fit p q = (p.0 ∙ sym q.0, p.1 ∙ sym q.1)
  in_order_one (Ok tt) len entry t fit p q = let x = fit refl in (told_one x.0 x.1 p.0 q.0, filled_one x.0.even_length p.1 q.1)

  -- refused exactly when a path meets a forbidden place, or the total is above 1,000,000,000
  told_exactly : {entry : ℕ} {r : Result ℕ Refusal} → Told flow entry r → ((f : Refusal) × (r ≡ Err f)) ↔ (((f : ℕ) × Meets flow 8 entry f) ⊎ Over flow entry)
  told_exactly (longest c) = ((λ x. absurd (let z : ◌≡◌ {A = ℕ} 0 1 = cc x.1 in omega arith)), (λ x. ⊎_elim (λ y. absurd (c.clear y.0 y.1)) (λ v. absurd (figure_over flow c v)) x))
  told_exactly {entry} (too_long v) = ((λ x. inr v), (λ x. (TooLong entry, refl)))
  told_exactly (forbids {f = f} {r = r} w b) = ((λ x. inl (f, w.met)), (λ x. (r, refl)))

pub figured_one : {k : Site} {rom : List ℕ} {entry : ℕ} {t : List ℕ} {r r' : Result ℕ Refusal} {a a' : List ℕ} → Bytes rom → Figured k rom entry t r a → Figured k rom entry t r' a'
    → (r ≡ r') × (a ≡ a')
figured_one {k} {rom} {entry} {t} b p q =
    in_order_one (flow_at k rom) (asked_of k (length rom) (length t) entry) (length rom) entry t
    (λ e. let g = fit_good k (length rom) (length t) entry e in (good_listing k rom b g, good_place g)) p.in_order q.in_order

pub exactly : {k : Site} {rom : List ℕ} {entry : ℕ} {t : List ℕ} {r : Result ℕ Refusal} {a : List ℕ} → Figured k rom entry t r a → RefusedExactly k rom entry t r
exactly {k} {rom} p e = told_exactly (flow_at k rom) (rw e at p.in_order).0
