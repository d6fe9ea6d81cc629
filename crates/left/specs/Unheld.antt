-- The refusal of bytes at a place that no code of the set begins and that begin none: 15 with the group of a left-out code that they fit, else 3.
-- The group stands above the 24 bits of the address.
use Rattle.std.specs.Prelude.{ℕ, zero, suc, ◌+◌, ◌*◌, ◌%◌, ◌^◌}
use Rattle.refusal.specs.declared.Refusal.{Refusal}
use Rattle.refusal.specs.declared.Refusal.TheVariants.{UnknownCode, LeftOut}

unfoldable pub unheld_of : ℕ → ℕ → Refusal
unheld_of place zero = UnknownCode place
unheld_of place (suc g) = LeftOut (suc g * 2 ^ 24 + place % 2 ^ 24)
