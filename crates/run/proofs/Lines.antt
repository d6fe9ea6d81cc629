-- The entry of a place means what the decoder finds there, and a new line keeps what the lines keep. Assumes nothing.
use Rattle.std.specs.Prelude.{Result, Ok, Err}
use Rattle.codes.specs.declared.Instruction.{Instruction}
use Prim.Native.Nat.{ℕ, zero, suc, ◌+◌, ◌*◌, ◌/◌, ◌%◌, ◌<◌}
use mathlib.Core.Path.{◌≡◌, refl, sym, ◌∙◌, ap}
use mathlib.Core.Bool.{Bool, true, false, ◌&&◌}
use mathlib.Core.List.{List, [], ◌∷◌}
use native.Mathlib.Omega.{arith}
use lib.Dec.{eqb, ltb}
use lib.ListN.{get_or, set, length}
use lib.Seq.{get_or-set_same, get_or-set_other, set_out}
use borrow.Author.Tests.{eqb-true, eqb-false, ltb-true, ltb-false}
use Rattle.codes.specs.Exact.{Bytes}
use Rattle.decoder.specs.MirrorDecode.{found_of, placed_of, decode_of}
use Rattle.decoder.specs.declared.whole.Fault.{Fault}
use Rattle.decoder.specs.declared.whole.Fault.TheVariants.{Cut, Unlisted}
use Rattle.decoder.proofs.Laws.{code_read}
use Rattle.entry.specs.Entry.{meaning_of}
use Rattle.entry.proofs.Laws.{packed, small, unheld_means, unheld_small, cut_means}
use Rattle.left.proofs.Least.{small_group}
use Rattle.run.proofs.Turns.{both}
use Rattle.run.specs.MirrorKept.{entry_of, Means, Keeps}

-- ---- the entry of bytes

module _ (p : ℕ) (s : List ℕ) (b : Bytes s) where
  means_by : (found : Result (Instruction × ℕ) Fault) → found_of s ≡ found → meaning_of p (entry_of s found) ≡ placed_of p s found
  means_by (Ok (i, n)) e = let r = code_read p s i n b (ap (placed_of p s) e) in packed p i r.valid ∙ ap (λ n. Ok (i, n)) (sym r.length_is)
  means_by (Err Cut) e = cut_means p
  means_by (Err Unlisted) e = unheld_means p _ (small_group s)

  small_by : (found : Result (Instruction × ℕ) Fault) → found_of s ≡ found → entry_of s found < 17592186044416
  small_by (Ok (i, n)) e = small i (code_read p s i n b (ap (placed_of p s) e)).valid
  small_by (Err Cut) e = omega arith
  small_by (Err Unlisted) e = unheld_small _ (small_group s)

  pub entry_means : (meaning_of p (entry_of s (found_of s)) ≡ decode_of p s) × (entry_of s (found_of s) < 17592186044416)
  entry_means = (means_by (found_of s) refl, small_by (found_of s) refl)

-- ---- the lines

abbrev line_of : ℕ → ℕ
line_of at = at / 2 % 256

abbrev tagged : ℕ → ℕ → ℕ
tagged at e = (at / 512 + 1) * 17592186044416 + e

module _ (rom lines : List ℕ) (k : Keeps rom lines) (at e : ℕ) (even : at % 2 ≡ 0) (is : Means rom at e) (fits : e < 17592186044416) where
  abbrev new : List ℕ
  new = set lines (line_of at) (tagged at e)

  abbrev Held : ℕ → Type 0
  Held at' = at' % 2 ≡ 0 → get_or new (line_of at') 0 / 17592186044416 ≡ at' / 512 + 1 → Means rom at' (get_or new (line_of at') 0 % 17592186044416)

  -- the line that was written has the tag of one place only
  same : (at' : ℕ) → line_of at' ≡ line_of at → line_of at < length lines → Held at'
  same at' p l ev h =
      let v : get_or new (line_of at) 0 ≡ tagged at e = get_or-set_same lines (line_of at) _ 0 l in
      let h' : get_or new (line_of at) 0 / 17592186044416 ≡ at' / 512 + 1 = rw p at h in
      let q : at' ≡ at = omega arith in
      let r : get_or new (line_of at) 0 % 17592186044416 ≡ e = omega arith in
      rw (p, q, r) is

  other : (at' : ℕ) → (line_of at' ≡ line_of at → ⊥) → Held at'
  other at' n ev h =
      let v : get_or new (line_of at') 0 ≡ get_or lines (line_of at') 0 = get_or-set_other lines (line_of at) (line_of at') _ 0 n in
      rw v (k.holds at' ev (rw v at h))

  by : (at' : ℕ) (t : Bool) → eqb (line_of at') (line_of at) ≡ t → line_of at < length lines → Held at'
  by at' true t l ev h = same at' (eqb-true _ _ t) l ev h
  by at' false t l ev h = other at' (eqb-false _ _ t) ev h

  room : (t : Bool) → ltb (line_of at) (length lines) ≡ t → Keeps rom new
  room true t = record { holds = λ at'. by at' _ refl (ltb-true _ _ t) }
  room false t = rw (set_out lines (line_of at) (tagged at e) (ltb-false _ _ t)) k

  -- a new line, if there is room for it, is kept too
  pub keeps : Keeps rom (set lines (at / 2 % 256) ((at / 512 + 1) * 17592186044416 + e))
  keeps = room _ refl

-- lines of 0 keep nothing
abbrev pub zeros : List ℕ → Bool
zeros [] = true
zeros (x ∷ l) = eqb x 0 && zeros l

zero_at : (l : List ℕ) → zeros l ≡ true → (i : ℕ) → get_or l i 0 ≡ 0
zero_at [] h i = refl
zero_at (x ∷ l) h zero = eqb-true x 0 (both (eqb x 0) (zeros l) h).0
zero_at (x ∷ l) h (suc i) = zero_at l (both (eqb x 0) (zeros l) h).1 i

pub none_kept : (rom lines : List ℕ) → zeros lines ≡ true → Keeps rom lines
none_kept rom lines z = record { holds = λ at ev h. absurd (let n = zero_at lines z (line_of at) in omega arith) }
