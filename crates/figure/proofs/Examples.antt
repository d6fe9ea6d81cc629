-- Document 01's marked examples 10 to 12: the answer and the whole table. That nothing else satisfies `Figured` is `figured_one`.
-- Assumes nothing.
use Rattle.std.specs.Prelude.{Ok, Err}
use mathlib.Core.Path.{◌≡◌, refl, sym, ◌∙◌}
use mathlib.Core.List.{List, [], ◌∷◌}
use Prim.Native.Nat.{ℕ, zero, suc, ◌+◌, ◌%◌, ◌≤◌, ◌<◌}
use native.Mathlib.Omega.{arith}
use lib.ListN.{length, get_or, get_or-eq_default}
use lib.Dec.{lit<, lit≤}
use Rattle.refusal.specs.declared.Refusal.TheVariants.{FetchOutside, BadEntry, NotUpward}
use Rattle.codes.specs.Exact.{Bytes}
use Rattle.site.specs.declared.Site.{Site}
use Rattle.site.specs.Costs.{dearest_of}
use Rattle.memory.specs.Board.{plain_board, could_carry}
use Rattle.timing.specs.Made.{base_of, most_at, most_of}
use Rattle.arith.specs.Widths.{signed_of}
use Rattle.flow.specs.Targets.{target_of}
use Rattle.paths.specs.Paths.{Enters}
use Rattle.paths.specs.MirrorRows.{row_of, total_of, joined, upward_of, reckoned_of, why_of}
use Rattle.paths.proofs.Rows.{PlainFrom, plain_down, plain_rows}
use Rattle.levels.specs.Levels.{Filled}
use Rattle.listing.specs.Listing.{branch_flow, goes_flow, found_flow, decoded_at, flow_at}
use Rattle.listing.proofs.Listed.{listing}
use Rattle.figure.specs.Answer.{asked_of, Figured}
use Rattle.figure.specs.MirrorFigure.{why_at, figure_of, verdict_of}
use Rattle.figure.proofs.Answered.{figured_unfit, figured_fit}

-- the site of their board, which has no ports
abbrev pub bare : Site
bare = (plain_board 0xFFEF10).site

-- the rows of a memory in which nothing calls, from the highest place down
module _ (rom : List ℕ) (bytes : Bytes rom) (even : length rom % 2 ≡ 0) (small : length rom ≤ 524288) (t : List ℕ) where
  abbrev Plain : ℕ → Type 0
  Plain p = PlainFrom (flow_at bare rom) (length rom) (listing bare rom bytes even small) t p

  above : (p : ℕ) → length rom ≤ p → Plain p
  above p h q k e l = absurd (omega arith)

  down : (p : ℕ) → p % 2 ≡ 0 → p < 16777216 → ((q : ℕ) → Enters (flow_at bare rom p) q → ⊥) → reckoned_of (row_of (length rom) t) (row_of (length rom) t) 8 p (flow_at bare rom p) ≡ record { figure = get_or t p 0; low = get_or t (p + 1) 0 }
      → get_or t p 0 ≤ 1000000000 → Plain (p + 2) → Plain p
  down p e h x i k r = plain_down (flow_at bare rom) (length rom) (listing bare rom bytes even small) t p (record { even = e; in_range = h }) x r i k

  -- so a table is filled, and the entry's row tells the answer
  fills : (before : List ℕ) → length t ≡ length before → ((i : ℕ) → length rom ≤ i → get_or t i 0 ≡ get_or before i 0) → Plain 0 → Filled (flow_at bare rom) (length rom) before t
  fills before e h R = record { same_length = e; rows = plain_rows (flow_at bare rom) (length rom) (listing bare rom bytes even small) t R; rest = h }

  figures : (before : List ℕ) (entry : ℕ) → length t ≡ length before → ((i : ℕ) → length rom ≤ i → get_or t i 0 ≡ get_or before i 0) → Plain 0 → entry % 2 ≡ 0 → entry < length rom
      → asked_of bare (length rom) (length before) entry ≡ Ok tt → Figured bare rom entry before (verdict_of (flow_at bare rom) entry (record { figure = get_or t entry 0; low = get_or t (entry + 1) 0 })) t
  figures before entry e h R x y fit = figured_fit bare rom bytes entry before t _ fit (R entry (omega arith) x y).0 (fills before e h R)

-- two tables of n numbers are alike past them
past : (a b : List ℕ) (n : ℕ) → length a ≤ n → length b ≤ n → (i : ℕ) → n ≤ i → get_or a i 0 ≡ get_or b i 0
past a b n h k i l = get_or-eq_default a 0 {n = i} (omega arith) ∙ sym (get_or-eq_default b 0 {n = i} (omega arith))

-- example 10: 4702 0B50 5470
abbrev code10 : List ℕ
code10 = 0x47 ∷ 0x02 ∷ 0x0B ∷ 0x50 ∷ 0x54 ∷ 0x70 ∷ []

abbrev sevens : List ℕ
sevens = 7 ∷ 7 ∷ 7 ∷ 7 ∷ 7 ∷ 7 ∷ []

abbrev table10 : List ℕ
table10 = 16 ∷ 16777215 ∷ 12 ∷ 16777215 ∷ 10 ∷ 16777215 ∷ []

bytes10 : Bytes code10
bytes10 = omega arith

plain10 : Plain code10 bytes10 refl (lit≤ tt) table10 0
unfolding flow_at found_flow goes_flow branch_flow decoded_at most_of base_of most_at dearest_of signed_of target_of row_of total_of joined upward_of reckoned_of
plain10 =
    let d = down code10 bytes10 refl (lit≤ tt) table10 in
    d 0 refl (lit< tt) (λ q e. e) refl (lit≤ tt) (d 2 refl (lit< tt) (λ q e. e) refl (lit≤ tt) (d 4 refl (lit< tt) (λ q e. e) refl (lit≤ tt) (above code10 bytes10 refl (lit≤ tt) table10 6 (lit≤ tt))))

pub example10 : Figured bare code10 0 sevens (Ok 16) table10
unfolding asked_of could_carry figure_of verdict_of
example10 = figures code10 bytes10 refl (lit≤ tt) table10 sevens 0 refl (past table10 sevens 6 (lit≤ tt) (lit≤ tt)) plain10 refl (lit< tt) refl

-- the same from the entry 2
pub example10_2 : Figured bare code10 2 sevens (Ok 12) table10
unfolding asked_of could_carry figure_of verdict_of
example10_2 = figures code10 bytes10 refl (lit≤ tt) table10 sevens 2 refl (past table10 sevens 6 (lit≤ tt) (lit≤ tt)) plain10 refl (lit< tt) refl

-- an address that is no place of that memory
pub high_entry : Figured bare code10 16777216 sevens (Err (BadEntry 16777216)) sevens
unfolding asked_of could_carry
high_entry = figured_unfit bare code10 16777216 sevens (BadEntry 16777216) refl

-- a memory of one instruction that calls nothing, whose row is x and y
one_row : (a b x y : ℕ) (rest : List ℕ) (bytes : Bytes (a ∷ b ∷ [])) → ((q : ℕ) → Enters (flow_at bare (a ∷ b ∷ []) 0) q → ⊥)
    → reckoned_of (row_of 2 (x ∷ y ∷ rest)) (row_of 2 (x ∷ y ∷ rest)) 8 0 (flow_at bare (a ∷ b ∷ []) 0) ≡ record { figure = x; low = y } → x ≤ 1000000000
    → asked_of bare 2 (length (7 ∷ 7 ∷ rest)) 0 ≡ Ok tt → Figured bare (a ∷ b ∷ []) 0 (7 ∷ 7 ∷ rest) (verdict_of (flow_at bare (a ∷ b ∷ [])) 0 (record { figure = x; low = y })) (x ∷ y ∷ rest)
one_row a b x y rest bytes calm i small fit =
    figures (a ∷ b ∷ []) bytes refl (lit≤ tt) (x ∷ y ∷ rest) (7 ∷ 7 ∷ rest) 0 refl alike
    (down (a ∷ b ∷ []) bytes refl (lit≤ tt) (x ∷ y ∷ rest) 0 refl (lit< tt) calm i small (above (a ∷ b ∷ []) bytes refl (lit≤ tt) (x ∷ y ∷ rest) 2 (lit≤ tt))) refl (lit< tt) fit
  where
    alike : (i : ℕ) → 2 ≤ i → get_or (x ∷ y ∷ rest) i 0 ≡ get_or (7 ∷ 7 ∷ rest) i 0
    alike zero h = absurd (omega arith)
    alike (suc zero) h = absurd (omega arith)
    alike (suc (suc i)) h = refl

-- example 11: 40FE, refusal 10 at 0
pub example11 : Figured bare (0x40 ∷ 0xFE ∷ []) 0 (7 ∷ 7 ∷ []) (Err (NotUpward 0)) (0 ∷ 0 ∷ [])
unfolding flow_at found_flow goes_flow branch_flow decoded_at most_of base_of most_at dearest_of signed_of target_of row_of total_of joined upward_of reckoned_of asked_of could_carry figure_of verdict_of why_at why_of
example11 = one_row 0x40 0xFE 0 0 [] (omega arith) (λ q e. e) refl (lit≤ tt) refl

-- example 12: 0B50 alone, refusal 2 at 2; table 0, 2, and what stands past it stays
pub example12 : Figured bare (0x0B ∷ 0x50 ∷ []) 0 (7 ∷ 7 ∷ 9 ∷ []) (Err (FetchOutside 2)) (0 ∷ 2 ∷ 9 ∷ [])
unfolding flow_at found_flow goes_flow branch_flow decoded_at most_of base_of most_at dearest_of signed_of target_of row_of total_of joined upward_of reckoned_of asked_of could_carry figure_of verdict_of why_at why_of
example12 = one_row 0x0B 0x50 0 2 (9 ∷ []) (omega arith) (λ q e. e) refl (lit≤ tt) refl

-- 4080: a branch back below 0 goes to a place above it, outside: refusal 2 there, and not 10
pub wrapped : Figured bare (0x40 ∷ 0x80 ∷ []) 0 (7 ∷ 7 ∷ []) (Err (FetchOutside 16777090)) (0 ∷ 16777090 ∷ [])
unfolding flow_at found_flow goes_flow branch_flow decoded_at most_of base_of most_at dearest_of signed_of target_of row_of total_of joined upward_of reckoned_of asked_of could_carry figure_of verdict_of why_at why_of
wrapped = one_row 0x40 0x80 0 16777090 [] (omega arith) (λ q e. e) refl (lit≤ tt) refl
