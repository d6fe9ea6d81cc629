-- What a trail tells: each read and write the accesses of its definition, the earlier first. Assumes nothing.
use Prim.Native.Nat.{ℕ, ◌+◌, ◌*◌, ◌/◌, ◌%◌, ◌<◌, ◌≤◌}
use mathlib.Core.Path.{◌≡◌, refl}
use mathlib.Core.Bool.{Bool, true, false}
use mathlib.Core.List.{[], ◌++◌}
use lib.ListN.{length}
use Rattle.std.specs.Prelude.{cond, eqb}
use native.Mathlib.Omega.{arith}
use Rattle.arith.specs.declared.Width.{Width}
use Rattle.arith.specs.declared.Width.TheVariants.{Byte, Word, Long}
use Rattle.memory.specs.Access.{address, even_address}
use Rattle.memory.specs.Told.{accesses_at}
use Rattle.memory.specs.Trail.{first_of, touch_of, noted, call_in, trail_in}

-- the places again, from the first
same_byte : (a : ℕ) → address (address a) ≡ address a
same_byte a = omega arith

same_word : (a : ℕ) → even_address (even_address a) ≡ even_address a
same_word a = omega arith

-- the addresses modulo 2^24, as a number in the trail has them
pub same_places : (write : Bool) (w : Width) (a : ℕ) → accesses_at write w (a % 16777216) ≡ accesses_at write w a
unfolding accesses_at
same_places write Byte a = rw (same_byte a)
same_places write Word a = rw (same_byte a)
same_places write Long a = rw (same_byte a)

module _ (p s : ℕ) (l : s < 8) where
  shape_of : (p * 8 + s) % 8 ≡ s
  shape_of = omega arith

  place_of : (p * 8 + s) / 8 ≡ p
  place_of = omega arith

pub touch_under : (write : Bool) (w : Width) (a : ℕ) → touch_of write w a < 134217728
unfolding touch_of first_of
touch_under true Byte a = omega arith
touch_under true Word a = omega arith
touch_under true Long a = omega arith
touch_under false Byte a = omega arith
touch_under false Word a = omega arith
touch_under false Long a = omega arith

pub call_is : (write : Bool) (w : Width) (a : ℕ) → call_in (touch_of write w a) ≡ accesses_at write w a
unfolding call_in touch_of first_of accesses_at
call_is false Byte a =
    let e : address a * 8 + 0 * 4 + 1 ≡ address a * 8 + 1 = omega arith in
    rw (e, shape_of (address a) 1 (omega arith), place_of (address a) 1 (omega arith), same_byte a)
call_is false Word a =
    let e : even_address a * 8 + 0 * 4 + 2 ≡ even_address a * 8 + 2 = omega arith in
    rw (e, shape_of (even_address a) 2 (omega arith), place_of (even_address a) 2 (omega arith), same_word a)
call_is false Long a =
    let e : even_address a * 8 + 0 * 4 + 3 ≡ even_address a * 8 + 3 = omega arith in
    rw (e, shape_of (even_address a) 3 (omega arith), place_of (even_address a) 3 (omega arith), same_word a)
call_is true Byte a =
    let e : address a * 8 + 1 * 4 + 1 ≡ address a * 8 + 5 = omega arith in
    rw (e, shape_of (address a) 5 (omega arith), place_of (address a) 5 (omega arith), same_byte a)
call_is true Word a =
    let e : even_address a * 8 + 1 * 4 + 2 ≡ even_address a * 8 + 6 = omega arith in
    rw (e, shape_of (even_address a) 6 (omega arith), place_of (even_address a) 6 (omega arith), same_word a)
call_is true Long a =
    let e : even_address a * 8 + 1 * 4 + 3 ≡ even_address a * 8 + 7 = omega arith in
    rw (e, shape_of (even_address a) 7 (omega arith), place_of (even_address a) 7 (omega arith), same_word a)

-- an empty trail, and one call behind another
pub none_told : trail_in 0 ≡ []
unfolding trail_in call_in
none_told = refl

module _ (t x : ℕ) (l : t < 134217728) (m : x < 134217728) where
  upper : (t % 134217728 * 134217728 + x) / 134217728 ≡ t
  upper = omega arith

  lower : (t % 134217728 * 134217728 + x) % 134217728 ≡ x
  lower = omega arith

  pub told_behind : trail_in (noted t x) ≡ call_in t ++ call_in x
  unfolding trail_in
  told_behind = rw (upper, lower)

-- ---- a call makes two accesses at most

few_by : (a b c d e f : Bool) (p : ℕ)
    → length (cond a (accesses_at false Byte p) (cond b (accesses_at false Word p) (cond c (accesses_at false Long p)
    (cond d (accesses_at true Byte p) (cond e (accesses_at true Word p) (cond f (accesses_at true Long p) [])))))) ≤ 2
unfolding accesses_at
few_by true b c d e f p = omega arith
few_by false true c d e f p = omega arith
few_by false false true d e f p = omega arith
few_by false false false true e f p = omega arith
few_by false false false false true f p = omega arith
few_by false false false false false true p = omega arith
few_by false false false false false false p = omega arith

pub call_few : (t : ℕ) → length (call_in t) ≤ 2
unfolding call_in
call_few t =
    few_by (eqb (t % 8) 1) (eqb (t % 8) 2) (eqb (t % 8) 3) (eqb (t % 8) 5) (eqb (t % 8) 6) (eqb (t % 8) 7) (t / 8)
