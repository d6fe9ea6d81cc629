-- A table after a row is stored.
-- Assumes nothing.
use Rattle.std.specs.Prelude.{Result}
use Rattle.std.proofs.Common.{◌≡◌, ℕ, suc, ◌+◌, ◌%◌, ◌<◌, ◌≤◌, ◌≢◌, List, length, get_or, set, sym, ◌∙◌, subst, ⊎_elim, arith, length-set, get_or-set_other, get_or-set_same}
use Rattle.refusal.specs.declared.Refusal.{Refusal}
use Rattle.paths.specs.declared.Flow.{Flow}
use Rattle.paths.specs.Levels.{HeldIs, LevelFrom}
use Rattle.paths.specs.MirrorRows.{unpacked_of}
use Rattle.paths.proofs.Laws.{le_or}

-- the packed row of p with d levels left
module _ (flow : ℕ → Result Flow Refusal) (len : ℕ) (t : List ℕ) (d p x : ℕ) (even : p % 2 ≡ 0) where
  abbrev pub kept : List ℕ
  kept = set t (p + d % 2) x

  -- it leaves the level below as it was
  pub kept_below : (e : ℕ) → d ≡ suc e → LevelFrom flow len t e 0 → LevelFrom flow len kept e 0
  kept_below e i R q h y l =
      subst (λ (w : ℕ). HeldIs flow e q (unpacked_of w)) (sym (get_or-set_other t (p + d % 2) (q + e % 2) x 0 (omega arith))) (R q h y l)

  pub kept_rows : p + 1 < length t → HeldIs flow d p (unpacked_of x) → LevelFrom flow len t d (p + 2) → LevelFrom flow len kept d p
  kept_rows room r R q h y l =
      ⊎_elim
      (λ (k : q ≤ p). let i : q ≡ p = omega arith in
      subst (λ (z : ℕ). HeldIs flow d z (unpacked_of (get_or kept (z + d % 2) 0))) (sym i)
      (subst (λ (w : ℕ). HeldIs flow d p (unpacked_of w)) (sym (get_or-set_same t (p + d % 2) x 0 (omega arith))) r))
      (λ (k : p < q). subst (λ (w : ℕ). HeldIs flow d q (unpacked_of w)) (sym (get_or-set_other t (p + d % 2) (q + d % 2) x 0 (omega arith))) (R q (omega arith) y l))
      (le_or q p)

  pub kept_rest : p + 2 ≤ len → (i : ℕ) → len ≤ i → get_or kept i 0 ≡ get_or t i 0
  kept_rest h i l = get_or-set_other t (p + d % 2) i x 0 (omega arith)

-- the two numbers of p
module _ (t : List ℕ) (p x y : ℕ) where
  abbrev pub stored : List ℕ
  stored = set (set t p x) (p + 1) y

  pub stored_length : length stored ≡ length t
  stored_length = simp length-set

  stored_other : (q : ℕ) → q ≢ p → q ≢ p + 1 → get_or stored q 0 ≡ get_or t q 0
  stored_other q a b = get_or-set_other (set t p x) (p + 1) q y 0 b ∙ get_or-set_other t p q x 0 a

  pub stored_rest : (n : ℕ) → p + 2 ≤ n → (i : ℕ) → n ≤ i → get_or stored i 0 ≡ get_or t i 0
  stored_rest n h i l = stored_other i (omega arith) (omega arith)

  pub stored_before : (i : ℕ) → i < p → get_or stored i 0 ≡ get_or t i 0
  stored_before i h = stored_other i (omega arith) (omega arith)

  pub stored_above : (i : ℕ) → p + 2 ≤ i → get_or stored i 0 ≡ get_or t i 0
  stored_above i h = stored_other i (omega arith) (omega arith)

  pub stored_at : p + 1 < length t → (get_or stored p 0 ≡ x) × (get_or stored (p + 1) 0 ≡ y)
  stored_at room = (get_or-set_other (set t p x) (p + 1) p y 0 (omega arith) ∙ get_or-set_same t p x 0 (omega arith), get_or-set_same (set t p x) (p + 1) y 0 (simp length-set (omega arith)))
