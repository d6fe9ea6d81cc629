-- The stores, case by case as the code of `src/write.rt` does. Nothing here is to be believed.
use Rattle.std.specs.Prelude.{ℕ, ◌+◌, ◌/◌, ◌%◌, Bool, true, false, List, ltb, length, set, Option, Some, None, Result, Ok, Err}
use Rattle.refusal.specs.declared.Refusal.{Refusal}
use Rattle.encoder.specs.Names.{LentTooShort, Tail, Bits16, Bits32, Parts}

abbrev pub set2 : List ℕ → ℕ → ℕ → ℕ → List ℕ
set2 l at x y = set (set l at (x % 256)) (at + 1) (y % 256)

abbrev pub set4 : List ℕ → ℕ → ℕ → List ℕ
set4 l at v = set2 (set2 l at (v / 16777216) (v / 65536)) (at + 2) (v / 256) v

abbrev pub start_of : Option (ℕ × ℕ) → ℕ
start_of None = 0
start_of (Some p) = 2

abbrev pub tail_size : Option Tail → ℕ
tail_size None = 0
tail_size (Some (Bits16 v)) = 2
tail_size (Some (Bits32 v)) = 4

abbrev pub size_of : Parts → ℕ
size_of h = start_of h.prefix + 2 + tail_size h.tail

abbrev pub prefix_set : List ℕ → Option (ℕ × ℕ) → List ℕ
prefix_set l None = l
prefix_set l (Some (x, y)) = set2 l 0 x y

abbrev pub tail_set : List ℕ → ℕ → Option Tail → List ℕ
tail_set l at None = l
tail_set l at (Some (Bits16 v)) = set2 l at (v / 256) v
tail_set l at (Some (Bits32 v)) = set4 l at v

abbrev pub write_of : Parts → List ℕ → List ℕ
write_of h l = tail_set (set2 (prefix_set l h.prefix) (start_of h.prefix) h.a h.b) (start_of h.prefix + 2) h.tail

abbrev pub pick : {A : Type 0} → Bool → A → A → A
pick true a b = a
pick false a b = b

abbrev pub answer_of : Parts → List ℕ → Result ℕ Refusal
answer_of h l = pick (ltb (length l) (size_of h)) (Err (LentTooShort (size_of h))) (Ok (size_of h))

abbrev pub left_of : Parts → List ℕ → List ℕ
left_of h l = pick (ltb (length l) (size_of h)) l (write_of h l)
