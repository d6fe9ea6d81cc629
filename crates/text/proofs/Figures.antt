-- The digits of a number, the last one split off.
use Rattle.std.proofs.Common.{ℕ, ◌≡◌, ◌<◌, ◌≤◌, ◌/◌, ◌%◌, ◌+◌, ◌-◌, Bool, [], ◌∷◌, ◌++◌, refl, arith}
use Prim.Native.Nat.{zero, suc}
use native.Mathlib.Numerals.{sub-one}
use borrow.Author.Tests.{lt-ltb, le-ltb}
use Rattle.text.specs.Numbers.{glyph_of, hex_of, figures_of}

pub last_figure : (k n : ℕ) → k ≡ 0 → figures_of k n ≡ (48 + n % 10) ∷ []
unfolding figures_of
last_figure zero n h = refl
last_figure (suc k) n h = absurd (omega arith)

pub small_figure : (k n : ℕ) → n < 10 → figures_of k n ≡ (48 + n % 10) ∷ []
unfolding figures_of
small_figure zero n h = refl
small_figure (suc k) n h = rw (lt-ltb _ _ h)

pub more_figures : (k n : ℕ) → 0 < k → 10 ≤ n → figures_of k n ≡ figures_of (k - 1) (n / 10) ++ ((48 + n % 10) ∷ [])
unfolding figures_of
more_figures zero n h g = absurd (omega arith)
more_figures (suc k) n h g = rw (le-ltb _ _ g, sub-one)

pub no_digits : (upper : Bool) (k n : ℕ) → k ≡ 0 → hex_of upper k n ≡ []
no_digits upper zero n h = refl
no_digits upper (suc k) n h = absurd (omega arith)

pub more_digits : (upper : Bool) (k n : ℕ) → 0 < k → hex_of upper k n ≡ hex_of upper (k - 1) (n / 16) ++ (glyph_of upper n ∷ [])
more_digits upper zero n h = absurd (omega arith)
more_digits upper (suc k) n h = rw sub-one
