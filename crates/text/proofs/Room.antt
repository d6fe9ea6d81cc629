-- Behind a byte more there is a zero less.
use Rattle.std.proofs.Common.{ℕ, ◌≡◌, ap, sym, ◌-◌, ◌+◌, List, drop, replicate, arith}
use Rattle.std.specs.Prelude.{slice_set}
use Rattle.std.proofs.lemmas.List.{drop-drop, drop-set-lt, drop-replicate}

pub room_left : (n : ℕ) (text : List ℕ) (b : ℕ) → drop n text ≡ replicate (192 - n) 0 → drop (n + 1) (slice_set text n b) ≡ replicate (192 - (n + 1)) 0
room_left n text b z =
    let e : 192 - n - 1 ≡ 192 - (n + 1) = omega arith in
    rw (drop-set-lt (n + 1) text n b (omega arith), sym (drop-drop 1 n text), z, drop-replicate {X = ℕ} 1 (192 - n) 0) (ap (λ k. replicate {A = ℕ} k 0) e)
