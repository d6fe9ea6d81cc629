-- The bytes from a place on, the last one split off.
use Rattle.std.proofs.Common.{ℕ, ◌≡◌, ◌+◌, List, ◌++◌, add-one, refl}
use Rattle.wording.specs.Standing.{byte_text, bytes_at}

pub more_bytes : (rom : List ℕ) (p n : ℕ) → bytes_at rom p (n + 1) ≡ bytes_at rom p n ++ byte_text rom (p + n)
unfolding bytes_at
more_bytes rom p n = rw add-one
