-- A replay's numbers and the answer, put beside what else was lent.
use mathlib.Core.Path.{◌≡◌, ◌∙◌, ap}
use mathlib.Core.List.{List}
use Prim.Native.Nat.{ℕ, ◌≤◌}
use lib.ListN.{length}
use lib.Seq.{sets}
use Rattle.replay.specs.declared.Standing.{Standing}
use Rattle.carried.specs.Carried.{replay_length, numbers_of}
use Rattle.carried.proofs.Back.{numbers_length}
use Rattle.layout.specs.Lent.{overwrite}
use Rattle.layout.proofs.Stored.{stored}
use Rattle.host.specs.Answers.{Noted, noted}
use Rattle.host.specs.Steps.{left}
use Rattle.host.specs.Cuts.{Carrying, carrying, with_replay, beside}

pub carry_on : {n : ℕ} {a x y : List ℕ} {t : Noted} → noted n a ≡ t → x ≡ y → carrying n x a ≡ with_replay y t
carry_on e p = cc (p, ap (λ (m : Noted). m.returned) e, ap (λ (m : Noted). m.answer) e)

pub numbers_stored : (k : Standing) (l after : List ℕ) → replay_length ≤ length l → after ≡ sets l 0 (numbers_of k) → after ≡ overwrite (numbers_of k) l
numbers_stored k l after h e = e ∙ stored (numbers_of k) l (rw (numbers_length k) h)

pub put_beside : {n : ℕ} {a x : List ℕ} {c : Carrying} (m : List ℕ) → carrying n x a ≡ c → left n m x a ≡ beside m c
put_beside m e = ap (λ (c : Carrying). beside m c) e
