use Rattle.std.proofs.Common.{◌≡◌, ℕ, ◌+◌, ◌-◌, ◌*◌, ◌%◌, ◌≤◌, ◌<◌, List, length, get_or, ap, ◌∙◌, ⊎_elim, arith}
use Rattle.paths.specs.declared.Reckoned.{Reckoned}
use Rattle.paths.specs.MirrorRows.{level_of, shown_of}
use Rattle.paths.proofs.Laws.{le_or}
use Rattle.paths.proofs.Table.{stored, stored_rest, stored_before, stored_at, stored_above}
use Rattle.levels.specs.Levels.{ShownFrom}
use Rattle.levels.proofs.Code.unpack.Goals as goal

-- a row that still stands as it was
same_level : (len : ℕ) (t t₀ : List ℕ) (p : ℕ) → get_or t p 0 ≡ get_or t₀ p 0 → level_of len t 8 p ≡ level_of len t₀ 8 p
unfolding level_of
same_level len t t₀ p e = let z : p + 8 % 2 ≡ p = omega arith in rw (z, e)

-- a row more
again : (len : ℕ) (t t₀ : List ℕ) (p : ℕ) (r : Reckoned) → p % 2 ≡ 0 → p + 2 ≤ length t → r ≡ shown_of p (level_of len t 8 p) → ShownFrom len t₀ t (p + 2) → get_or t p 0 ≡ get_or t₀ p 0
    → ShownFrom len t₀ (stored t p r.figure r.low) p
again len t t₀ p r e room is R same q k x l =
    let i : r ≡ shown_of p (level_of len t₀ 8 p) = is ∙ ap (λ (z : Reckoned). shown_of p z) (same_level len t t₀ p same) in
    ⊎_elim
    (λ (y : q ≤ p). let z : q ≡ p = omega arith in
    let at = stored_at t p r.figure r.low (omega arith) in
    rw z (at.0 ∙ ap (λ (v : Reckoned). v.figure) i, at.1 ∙ ap (λ (v : Reckoned). v.low) i))
    (λ (y : p < q). let at = R q (omega arith) x l in
    (stored_above t p r.figure r.low q (omega arith) ∙ at.0, stored_above t p r.figure r.low (q + 1) (omega arith) ∙ at.1))
    (le_or q p)

pub loop-i-preserved : goal.loop-i-preserved
loop-i-preserved c =
    let s = c in
    let l = c.loop-i in
    let i = l.invariant in
    let p = (l.i - 1) * 2 in
    let r = c.shown-r.result in
    record {
      rows = again (length s.args.self.rom.now) l.table s.args.table.now p r (omega arith) (omega (arith, s.requires.room)) (c.shown-r.ensures ∙ ap (λ (z : Reckoned). shown_of p z) c.held.ensures)
          (λ q h. i.rows q (omega arith)) (i.below p (omega arith));
      below = λ j h. stored_before l.table p r.figure r.low j (omega arith) ∙ i.below j (omega arith);
      rest = λ j h. stored_rest l.table p r.figure r.low _ (omega arith) j h ∙ i.rest j h;
    }
