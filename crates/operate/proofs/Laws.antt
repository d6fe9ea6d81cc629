-- Sums and differences of 32 bits by the machine's own.
use Rattle.std.proofs.Common.{◌≡◌, ℕ, ◌+◌, ◌%◌, ◌^◌, ◌<◌, false, arith}
use Rattle.arith.specs.Sums.{add_of, sub_of}

pub raised : (a n x : ℕ) → x ≡ (a + n) % 2 ^ 32 → x ≡ (add_of 32 a n false).value
unfolding add_of
raised a n x e = omega arith

pub lowered : (a n x : ℕ) → x < 2 ^ 32 → (x + n) % 2 ^ 32 ≡ a → x ≡ (sub_of 32 a n false).value
unfolding sub_of
lowered a n x l e = omega arith
