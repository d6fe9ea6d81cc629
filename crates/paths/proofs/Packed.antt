-- Packed rows, unpacked, are the rows of `MirrorRows`; and what is noted of a place is all that its row is reckoned from.
-- Assumes nothing.
use Rattle.std.specs.Prelude.{Result, Ok, Err}
use Rattle.std.proofs.Common.{◌≡◌, ℕ, suc, ◌+◌, ◌-◌, ◌*◌, ◌/◌, ◌%◌, ◌^◌, ◌<◌, ◌≤◌, min, max, Bool, true, false, cond, ◌||◌, eqb, leb, List, get_or, sym, refl, ◌∙◌, inl, inr, ⊎_elim, arith, le-ltb, lt-ltb, ne_eqb}
use Rattle.refusal.specs.declared.Refusal.{Refusal}
use Rattle.paths.specs.declared.Reckoned.{Reckoned}
use Rattle.paths.specs.declared.Flow.{Flow}
use Rattle.paths.specs.declared.Flow.TheVariants.{Next, Jump, Either, Call, Ends}
use Rattle.paths.specs.declared.Kind.{Kind}
use Rattle.paths.specs.declared.Kind.TheVariants.{Stops, Returns, Goes, Calls}
use Rattle.paths.specs.Paths.{IsPlace, Leads, Enters, count_of}
use Rattle.paths.specs.Levels.{HeldIs, LevelFrom}
use Rattle.paths.specs.MirrorRows.{barred, unpacked_of, level_of, total_of, joined, called_of, upward_of, entered_of, reckoned_of}
use Rattle.paths.specs.MirrorPacked.{packed_bar, packed_at, packed_total, packed_join, packed_call, packed_up, packed_in, packed_flow, number_of, kind_at, notes_for, notes_of, kind_of, noted_of, plain_of}
use Rattle.paths.proofs.Laws.{le_or, Listing}
use Rattle.paths.proofs.Rows.{row_reckoned}

-- x is the row r, packed
pub record Packs (r : Reckoned) (x : ℕ) : Type 0 where
  pub small : x < 4294967296
  pub is : r ≡ unpacked_of x

-- a packed row has a figure, or a place
clear : (x : ℕ) → x ≤ 4278190080 → unpacked_of x ≡ record { figure = x; low = 16777215 }
unfolding unpacked_of
clear x h = let z : x % 4294967296 ≡ x = omega arith in rw z (simp (le-ltb 4278190080 x h))

bars : (x : ℕ) → 4278190080 < x → x < 4294967296 → unpacked_of x ≡ record { figure = 0; low = 4294967295 - x }
unfolding unpacked_of
bars x h k = let z : x % 4294967296 ≡ x = omega arith in rw z (simp (lt-ltb 4278190080 x h))

packs_bar : (p : ℕ) → p < 16777215 → Packs (barred p) (packed_bar p)
unfolding packed_bar
packs_bar p h = let z : 4294967295 - (4294967295 - p) ≡ p = omega arith in record { small = omega arith; is = sym (rw z at (bars (4294967295 - p) (omega arith) (omega arith))) }

packs_figure : (x : ℕ) → x ≤ 4278190080 → Packs (record { figure = x; low = 16777215 }) x
packs_figure x h = record { small = omega arith; is = sym (clear x h) }

-- only the lower half of a number counts
pub lower : (x y : ℕ) → x % 4294967296 ≡ y % 4294967296 → unpacked_of x ≡ unpacked_of y
unfolding unpacked_of
lower x y e = rw e

packs_at : (len : ℕ) (table : List ℕ) (d q : ℕ) → q < 16777215 → Packs (level_of len table d q) (packed_at len table d q)
unfolding level_of packed_at
packs_at len table d q h =
    let x = get_or table (q + d % 2) 0 in
    ⊎_elim (λ k. simp (le-ltb q len k) (packs_bar q h)) (λ k. simp (lt-ltb q len k) (record { small = omega arith; is = lower x (x % 4294967296) (omega arith) })) (le_or len q)

-- the larger of two packed rows tells the lowest place
total_bars : (s rest a b f : ℕ) → min a b ≡ f → f < 16777215 → total_of s rest a b ≡ record { figure = 0; low = f }
unfolding total_of
total_bars s rest a b f e h = rw e (simp (ne_eqb f 16777215 (λ z. omega arith)))

packs_bars : (s rest rest' a b top : ℕ) → 4278190080 < top → top < 4294967296 → min a b ≡ 4294967295 - top → Packs (total_of s rest a b) (packed_total s rest' top)
unfolding packed_total
packs_bars s rest rest' a b top h k e = simp (lt-ltb 4278190080 top h) (record { small = k; is = total_bars s rest a b (4294967295 - top) e (omega arith) ∙ sym (bars top h k) })

packs_sum : (s rest top : ℕ) → top ≤ 4278190080 → Packs (total_of s rest 16777215 16777215) (packed_total s rest top)
unfolding total_of packed_total
packs_sum s rest top h = simp (le-ltb 4278190080 top h) (packs_figure (min ((s + rest) % 2 ^ 64) 1000000001) (omega arith))

packs_total : (s rest rest' x y : ℕ) → x < 4294967296 → y < 4294967296 → (x ≤ 4278190080 → y ≤ 4278190080 → rest ≡ rest')
    → Packs (total_of s rest (unpacked_of x).low (unpacked_of y).low) (packed_total s rest' (max x y))
packs_total s rest rest' x y h k e =
    ⊎_elim
    (λ i. ⊎_elim (λ j. rw (clear x i, clear y j, e i j) (packs_sum s rest' (max x y) (omega arith)))
    (λ j. rw (clear x i, bars y j k) (packs_bars s rest rest' 16777215 (4294967295 - y) (max x y) (omega arith) (omega arith) (omega arith))) (le_or y 4278190080))
    (λ i. ⊎_elim (λ j. rw (bars x i h, clear y j) (packs_bars s rest rest' (4294967295 - x) 16777215 (max x y) (omega arith) (omega arith) (omega arith)))
    (λ j. rw (bars x i h, bars y j k) (packs_bars s rest rest' (4294967295 - x) (4294967295 - y) (max x y) (omega arith) (omega arith) (omega arith))) (le_or y 4278190080))
    (le_or x 4278190080)

module _ (s : ℕ) {a b : Reckoned} {x y : ℕ} (A : Packs a x) (B : Packs b y) where
  packs_join : Packs (joined s a b) (packed_join s x y)
  unfolding joined packed_join
  packs_join = rw (A.is, B.is) (packs_total s (max (unpacked_of x).figure (unpacked_of y).figure) (max x y) x y A.small B.small (λ h k. rw (clear x h, clear y k)))

  packs_call : Packs (called_of s a b) (packed_call s x y)
  unfolding called_of packed_call
  packs_call = rw (A.is, B.is) (packs_total s (((unpacked_of x).figure + (unpacked_of y).figure) % 2 ^ 64) ((x + y) % 2 ^ 64) x y A.small B.small (λ h k. rw (clear x h, clear y k)))

-- of the place p, from a table, with d levels left
module _ (len : ℕ) (table : List ℕ) (d p : ℕ) (inside : p < 16777215) where
  packs_up : (n t s : ℕ) → n < 16777215 → t < 16777215
      → Packs (upward_of (level_of len table d) (level_of len table (d - 1)) p n t s) (packed_up (packed_at len table d) (packed_at len table (d - 1)) p n t s)
  unfolding upward_of packed_up
  packs_up n t s h k = go (leb n p || leb t p)
    where
      go : (v : Bool) → Packs (cond v (barred p) (joined s (level_of len table d n) (level_of len table d t))) (cond v (packed_bar p) (packed_join s (packed_at len table d n) (packed_at len table d t)))
      go true = packs_bar p inside
      go false = packs_join s (packs_at len table d n h) (packs_at len table d t k)

  packs_in : (n t s : ℕ) → n < 16777215 → t < 16777215
      → Packs (entered_of (level_of len table d) (level_of len table (d - 1)) d p n t s) (packed_in (packed_at len table d) (packed_at len table (d - 1)) d p n t s)
  unfolding entered_of packed_in
  packs_in n t s h k = go (eqb d 0)
    where
      go : (v : Bool) → Packs (cond v (barred p) (called_of s (level_of len table (d - 1) t) (level_of len table d n))) (cond v (packed_bar p) (packed_call s (packed_at len table (d - 1) t) (packed_at len table d n)))
      go true = packs_bar p inside
      go false = packs_call s (packs_at len table (d - 1) t k) (packs_at len table d n h)

  packs_flow : (f : Result Flow Refusal) → ((q : ℕ) → Leads f q → q < 16777215) → ((t : ℕ) → Enters f t → t < 16777215)
      → Packs (reckoned_of (level_of len table d) (level_of len table (d - 1)) d p f) (packed_flow (packed_at len table d) (packed_at len table (d - 1)) d p f)
  unfolding reckoned_of packed_flow
  packs_flow (Ok (Next n s)) w u = packs_up n n s (w n refl) (w n refl)
  packs_flow (Ok (Jump t s)) w u = packs_up t t s (w t refl) (w t refl)
  packs_flow (Ok (Either n t s)) w u = packs_up n t s (w n (inl refl)) (w t (inr refl))
  packs_flow (Ok (Call n t s)) w u = packs_in n t s (w n refl) (u t refl)
  packs_flow (Ok (Ends s)) w u = packs_figure (min s 1000000001) (omega arith)
  packs_flow (Err r) w u = packs_bar p inside

-- what is noted
plain_flow : (same less : ℕ → ℕ) (d p : ℕ) (f : Result Flow Refusal) → packed_flow same less d p (plain_of f) ≡ packed_flow same less d p f
unfolding packed_flow plain_of
plain_flow same less d p (Ok (Next n s)) = refl
plain_flow same less d p (Ok (Jump t s)) = refl
plain_flow same less d p (Ok (Either n t s)) = refl
plain_flow same less d p (Ok (Call n t s)) = refl
plain_flow same less d p (Ok (Ends s)) = refl
plain_flow same less d p (Err r) = refl

upper : (x : ℕ) → x * 4294967296 / 4294967296 ≡ x
upper x = omega arith

place_of : (a b : ℕ) → a < 16777216 → (a % 16777216 + b * 16777216) % 16777216 ≡ a
place_of a b h = omega arith

above_it : (a b : ℕ) → (a % 16777216 + b * 16777216) / 16777216 ≡ b
above_it a b = omega arith

known : (kind : Kind) → kind_at (number_of kind) ≡ kind
known Stops = refl
known Returns = refl
known Goes = refl
known Calls = refl

noted_for : (kind : Kind) (n t s : ℕ) → n < 16777216 → t < 16777216 → s < 256 → noted_of ((notes_for kind n t s).to / 4294967296) ((notes_for kind n t s).on / 4294967296) ≡ kind_of kind n t s
unfolding noted_of notes_for
noted_for kind n t s h k l =
    let e : s % 256 ≡ s = omega arith in
    rw (e, upper (t % 16777216 + number_of kind * 16777216), upper (n % 16777216 + s * 16777216), above_it t (number_of kind), known kind, place_of n s h, place_of t (number_of kind) k, above_it n s)

noted_is : (f : Result Flow Refusal) → ((q : ℕ) → Leads f q → q < 16777216) → ((t : ℕ) → Enters f t → t < 16777216) → count_of f < 256
    → noted_of ((notes_of f).to / 4294967296) ((notes_of f).on / 4294967296) ≡ plain_of f
unfolding notes_of plain_of kind_of
noted_is (Ok (Next n s)) w u h = noted_for Goes n n s (w n refl) (w n refl) h
noted_is (Ok (Jump t s)) w u h = noted_for Goes t t s (w t refl) (w t refl) h
noted_is (Ok (Either n t s)) w u h = noted_for Goes n t s (w n (inl refl)) (w t (inr refl)) h
noted_is (Ok (Call n t s)) w u h = noted_for Calls n t s (w n refl) (u t refl) h
noted_is (Ok (Ends s)) w u h = noted_for Returns 0 0 s (omega arith) (omega arith) h
noted_is (Err r) w u h = noted_for Stops 0 0 0 (omega arith) (omega arith) (omega arith)

-- a place is even, so it is not the largest number below 2^24
place_in : {p : ℕ} → IsPlace p → p < 16777215
place_in z = omega (arith, z.even, z.in_range)

module _ (flow : ℕ → Result Flow Refusal) (len : ℕ) (L : Listing flow len) (p : ℕ) (z : IsPlace p) where
  pub noted_flow : noted_of ((notes_of (flow p)).to / 4294967296) ((notes_of (flow p)).on / 4294967296) ≡ plain_of (flow p)
  noted_flow = noted_is (flow p) (λ q w. (L.ways p q z w).in_range) (λ t u. (L.entries p t z u).in_range) (omega (arith, L.few p z))

  -- the packed row of p from what is noted there, the rows of the places above it, and of all with a level less
  module _ (table : List ℕ) (d to on x : ℕ) (noted : noted_of to on ≡ plain_of (flow p)) (is : x ≡ packed_flow (packed_at len table d) (packed_at len table (d - 1)) d p (noted_of to on)) where
    packs_row : Packs (reckoned_of (level_of len table d) (level_of len table (d - 1)) d p (flow p)) x
    packs_row =
        rw (is, noted, plain_flow (packed_at len table d) (packed_at len table (d - 1)) d p (flow p))
        (packs_flow len table d p (place_in z) (flow p) (λ q w. place_in (L.ways p q z w)) (λ t u. place_in (L.entries p t z u)))

    pub packed_small : x < 4294967296
    packed_small = packs_row.small

    pub packed_held : LevelFrom flow len table d (p + 2) → ((e : ℕ) → d ≡ suc e → LevelFrom flow len table e 0) → HeldIs flow d p (unpacked_of x)
    packed_held R C = rw packs_row.is at (row_reckoned flow len L table d p z R C)
