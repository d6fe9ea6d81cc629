-- The table that is left, and what is asked for before it is filled.
-- Assumes nothing.
use Rattle.std.specs.Prelude.{Result}
use mathlib.Core.Path.{◌≡◌, refl, ◌∙◌}
use mathlib.Core.Bool.{Bool, true, false, not, ◌&&◌}
use mathlib.Core.List.{List}
use Prim.Native.Nat.{ℕ, ◌%◌, ◌≤◌}
use native.Mathlib.Omega.{arith}
use lib.Dec.{leb, eqb}
use borrow.Author.Tests.{eqb-true, leb-true}
use Rattle.refusal.specs.declared.Refusal.{Refusal}
use Rattle.paths.specs.declared.Flow.{Flow}
use Rattle.paths.specs.MirrorRows.{level_of}
use Rattle.paths.specs.Levels.{HeldIs}
use Rattle.paths.proofs.Laws.{Listing, row_cast}
use Rattle.paths.proofs.Rows.{level_at, shown_row}
use Rattle.levels.specs.Levels.{Filled, fitting, Lent, Reached, Unpacked}

pub record Fitting (len given entry : ℕ) : Type 0 where
  pub even : len % 2 ≡ 0
  pub small : len ≤ 524288
  pub lent : Lent len given 8
  pub entry_even : entry % 2 ≡ 0

pub fitting_is : (len lent entry : ℕ) → fitting len lent entry ≡ true → Fitting len lent entry
unfolding fitting
fitting_is len lent entry e = go (eqb (len % 2) 0) (leb len 524288) (leb len lent) (eqb (entry % 2) 0) e (λ x. eqb-true _ _ x) (λ x. leb-true _ _ x) (λ x. leb-true _ _ x) (λ x. eqb-true _ _ x)
  where
    go : (a b c d : Bool) → (a && (b && (c && d))) ≡ true → (a ≡ true → len % 2 ≡ 0) → (b ≡ true → len ≤ 524288) → (c ≡ true → len ≤ lent) → (d ≡ true → entry % 2 ≡ 0) → Fitting len lent entry
    go true true true true h x y z w = record { even = x refl; small = y refl; lent = record { room = z refl; levels = omega arith }; entry_even = w refl }
    go true true true false h x y z w = absurd (let k : ◌≡◌ {A = ℕ} 0 1 = cc in omega arith)
    go true true false d h x y z w = absurd (let k : ◌≡◌ {A = ℕ} 0 1 = cc in omega arith)
    go true false c d h x y z w = absurd (let k : ◌≡◌ {A = ℕ} 0 1 = cc in omega arith)
    go false b c d h x y z w = absurd (let k : ◌≡◌ {A = ℕ} 0 1 = cc in omega arith)

-- what the code's test of it tells
pub off : {x y : Bool} → x ≡ y → not x ≡ true → y ≡ false
off {x = true} e t = absurd (let z : ◌≡◌ {A = ℕ} 0 1 = cc in omega arith)
off {x = false} e t = cc

pub on : {x y : Bool} → x ≡ y → not x ≡ false → y ≡ true
on {x = true} e t = cc
on {x = false} e t = absurd (let z : ◌≡◌ {A = ℕ} 0 1 = cc in omega arith)

module _ (flow : ℕ → Result Flow Refusal) (len : ℕ) (L : Listing flow len) {before mid : List ℕ} {i : ℕ} (z : i ≡ 0) (r : Reached flow len 8 i before mid) where
  -- the row of an even address, before the table is unpacked
  pub entry_row : (entry : ℕ) → entry % 2 ≡ 0 → HeldIs flow 8 entry (level_of len mid 8 entry)
  entry_row entry e = level_at flow len L mid 8 i entry r.rows (omega arith) e

  -- and the table after
  pub filled : {after : List ℕ} → Unpacked len mid after → Filled flow len before after
  filled u =
      record {
        same_length = u.same_length ∙ r.costed.same_length;
        rows = λ p h e l. let x = u.rows p h e l in row_cast flow x.0 x.1 (shown_row flow len L (entry_row p e));
        rest = λ k l. u.rest k l ∙ r.costed.rest k l;
      }
