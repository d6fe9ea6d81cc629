-- A level of the table, row by row.
-- Assumes nothing.
use Rattle.std.specs.Prelude.{Result}
use mathlib.Core.Path.{◌≡◌, refl, subst, ◌∙◌}
use mathlib.Core.Logic.{⊎_elim}
use mathlib.Core.List.{List}
use Prim.Native.Nat.{ℕ, suc, ◌+◌, ◌-◌, ◌*◌, ◌/◌, ◌%◌, ◌≤◌, ◌<◌}
use native.Mathlib.Omega.{arith}
use native.Mathlib.Decide.{ℕ_discrete}
use lib.ListN.{length, get_or, set, length-set}
use lib.Seq.{get_or-set_same, get_or-set_other}
use Rattle.refusal.specs.declared.Refusal.{Refusal}
use Rattle.paths.specs.declared.Flow.{Flow}
use Rattle.paths.specs.Paths.{IsPlace}
use Rattle.paths.specs.Levels.{HeldIs, LevelFrom}
use Rattle.paths.specs.declared.Notes.{Notes}
use Rattle.paths.specs.MirrorRows.{unpacked_of}
use Rattle.paths.specs.MirrorPacked.{packed_at, packed_flow, notes_of, noted_of, plain_of}
use Rattle.paths.proofs.Laws.{le_or, Listing}
use Rattle.paths.proofs.Packed.{lower, noted_flow, packed_small, packed_held}
use Rattle.paths.proofs.Table.{kept_below, kept_rows, kept_rest, stored, stored_at, stored_above}
use Rattle.levels.specs.Levels.{NotedFrom, Ready, Costed, Reached}

-- what stands in the upper half of a number stays
kept_upper : (t : List ℕ) (at x i : ℕ) → x < 4294967296 → at < length t → get_or (set t at (get_or t at 0 / 4294967296 * 4294967296 + x)) i 0 / 4294967296 ≡ get_or t i 0 / 4294967296
kept_upper t at x i h room = go (ℕ_discrete i at)
  where
    go : Dec (i ≡ at) → get_or (set t at (get_or t at 0 / 4294967296 * 4294967296 + x)) i 0 / 4294967296 ≡ get_or t i 0 / 4294967296
    go (yes e) = rw (e, get_or-set_same t at (get_or t at 0 / 4294967296 * 4294967296 + x) 0 room) (omega arith)
    go (no e) = rw (get_or-set_other t at i (get_or t at 0 / 4294967296 * 4294967296 + x) 0 e)

module _ (flow : ℕ → Result Flow Refusal) (len : ℕ) where
  -- with no level left there is nothing more to know
  pub none_left : {d : ℕ} {before after : List ℕ} → d ≡ 0 → Costed flow len 0 before after → Costed flow len d before after
  none_left h c = record { same_length = c.same_length; noted = c.noted; below = λ e i. absurd (omega arith); rest = c.rest }

  -- the whole level below
  pub level_below : {d i : ℕ} {before after : List ℕ} → i ≡ 0 → 0 < d → Reached flow len (d - 1) i before after → Costed flow len d before after
  level_below {d} {i} {before} {after} z h r = record { same_length = r.costed.same_length; noted = r.costed.noted; below = below; rest = r.costed.rest }
    where
      below : (e : ℕ) → d ≡ suc e → LevelFrom flow len after e 0
      below e x = let y : d - 1 ≡ e = omega arith in subst (λ (v : ℕ). LevelFrom flow len after v 0) y (λ p k. r.rows p (omega arith))

  -- before the first row, and where rows stand already
  pub no_row : {d i : ℕ} {before after : List ℕ} → len ≤ i → Costed flow len d before after → Reached flow len d i before after
  no_row h c = record { costed = c; rows = λ p k e l. absurd (omega arith) }

  pub at_first : {d i j : ℕ} (t : List ℕ) → i ≤ j → Ready flow len t d i → Reached flow len d j t t
  at_first t h x = record { costed = record { same_length = refl; noted = x.noted; below = x.below; rest = λ i l. refl }; rows = λ p k. x.rows p (omega arith) }

  pub from_higher : {d i j : ℕ} {before after : List ℕ} → i ≤ j → Reached flow len d i before after → Reached flow len d j before after
  from_higher h r = record { costed = r.costed; rows = λ p k. r.rows p (omega arith) }

  -- what the rows below ask for
  pub ready : {d i j : ℕ} {before after : List ℕ} → i ≤ j → Reached flow len d i before after → Ready flow len after d j
  ready h r = record { noted = r.costed.noted; below = r.costed.below; rows = λ p k. r.rows p (omega arith) }

  -- one part after the other
  pub halves : {d i j k : ℕ} {before mid after : List ℕ} → j ≤ k → Reached flow len d i before mid → Reached flow len d j mid after → Reached flow len d k before after
  halves h a b =
      record {
        costed = record {
          same_length = b.costed.same_length ∙ a.costed.same_length;
          noted = b.costed.noted;
          below = b.costed.below;
          rest = λ i l. b.costed.rest i l ∙ a.costed.rest i l;
        };
        rows = λ p k. b.rows p (omega arith);
      }

  -- the row of p, in the lower half of its number
  module _ (L : Listing flow len) (d p x : ℕ) (even : p % 2 ≡ 0) (inside : p + 2 ≤ len) {i : ℕ} {before mid : List ℕ} (room : len ≤ length before) (above : i ≤ p + 2) (r : Reached flow len d i before mid)
      (is : x ≡ packed_flow (packed_at len mid d) (packed_at len mid (d - 1)) d p (noted_of (get_or mid p 0 / 4294967296) (get_or mid (p + 1) 0 / 4294967296))) where
    place : IsPlace p
    place = record { even = even; in_range = omega (arith, L.small) }

    noted_here : noted_of (get_or mid p 0 / 4294967296) (get_or mid (p + 1) 0 / 4294967296) ≡ plain_of (flow p)
    noted_here = r.costed.noted p (omega arith) even (omega arith)

    rows_above : LevelFrom flow len mid d (p + 2)
    rows_above q k = r.rows q (omega arith)

    pub row_small : x < 4294967296
    row_small = packed_small flow len L p place mid d (get_or mid p 0 / 4294967296) (get_or mid (p + 1) 0 / 4294967296) x noted_here is

    abbrev number : ℕ
    number = get_or mid (p + d % 2) 0 / 4294967296 * 4294967296 + x

    held : HeldIs flow d p (unpacked_of number)
    held = rw (lower number x (omega arith)) (packed_held flow len L p place mid d (get_or mid p 0 / 4294967296) (get_or mid (p + 1) 0 / 4294967296) x noted_here is rows_above r.costed.below)

    still_noted : NotedFrom flow len (set mid (p + d % 2) number) 0
    still_noted q k e l =
        let room : p + d % 2 < length mid = omega (arith, r.costed.same_length) in
        rw (kept_upper mid (p + d % 2) x q row_small room, kept_upper mid (p + d % 2) x (q + 1) row_small room) (r.costed.noted q k e l)

    pub one_row : {j : ℕ} → p ≤ j → Reached flow len d j before (set mid (p + d % 2) number)
    one_row h =
        record {
          costed = record {
            same_length = simp length-set r.costed.same_length;
            noted = still_noted;
            below = λ e y. kept_below flow len mid d p number even e y (r.costed.below e y);
            rest = λ k l. kept_rest flow len mid d p number even inside k l ∙ r.costed.rest k l;
          };
          rows = λ q k. kept_rows flow len mid d p number even (omega (arith, r.costed.same_length)) held rows_above q (omega arith);
        }

  -- what is noted of p, below the places of which it is noted already
  module _ (L : Listing flow len) (t : List ℕ) (p : ℕ) (even : p % 2 ≡ 0) (inside : p + 2 ≤ len) (room : len ≤ length t) where
    pub one_note : (w : Notes) → w ≡ notes_of (flow p) → NotedFrom flow len t (p + 2) → NotedFrom flow len (stored t p w.to w.on) p
    one_note w is R q k e l =
        ⊎_elim
        (λ (h : q ≤ p). let z : q ≡ p = omega arith in
        let at = stored_at t p w.to w.on (omega arith) in
        rw (z, at.0, at.1, is) (noted_flow flow len L p (record { even = even; in_range = omega (arith, L.small) })))
        (λ (h : p < q). rw (stored_above t p w.to w.on q (omega arith), stored_above t p w.to w.on (q + 1) (omega arith)) (R q (omega arith) e l))
        (le_or q p)
