-- One bit of a number. Bit 0 is the lowest.
use Rattle.std.specs.Prelude.{ℕ, ◌+◌, ◌*◌, ◌/◌, ◌%◌, ◌^◌, ◌≡◌, Bool, ◌≢◌}
use Rattle.arith.specs.Widths.{num, low_bit}

-- bit n of x
abbrev pub bit_of : ℕ → ℕ → Bool
bit_of n x = low_bit (x / 2 ^ n)

-- x with v as its bit n: what is above it, the bit, what is below it
unfoldable pub with_bit : ℕ → ℕ → Bool → ℕ
with_bit n x v = x / 2 ^ (n + 1) * 2 ^ (n + 1) + num v * 2 ^ n + x % 2 ^ n

-- every bit of y but bit n is that of x
abbrev pub OthersStay : ℕ → ℕ → ℕ → Type 0
OthersStay n x y = (m : ℕ) → m ≢ n → bit_of m y ≡ bit_of m x
