-- The accesses of a step, the last one split off.
use Rattle.std.proofs.Common.{ℕ, ◌≡◌, ◌+◌, ◌<◌, Bool, List, [], ◌∷◌, ◌++◌, length, take, get_or, sym, ap, ◌∙◌, append_assoc}
use Rattle.std.proofs.lemmas.List.{take_more, append-nil}
use Rattle.memory.specs.declared.told.Access.{Access}
use Rattle.runlines.specs.Traces.{access_text, accesses_text}

accesses_push : (plain : Bool) (xs : List Access) (x : Access) → accesses_text plain (xs ++ x ∷ []) ≡ accesses_text plain xs ++ access_text plain x
accesses_push plain [] x = append-nil (access_text plain x)
accesses_push plain (y ∷ ys) x = ap (λ s. access_text plain y ++ s) (accesses_push plain ys x) ∙ sym (append_assoc (access_text plain y) (accesses_text plain ys) (access_text plain x))

pub accesses_more : (plain : Bool) (xs : List Access) (i : ℕ) (x : Access) → i < length xs → accesses_text plain (take (i + 1) xs) ≡ accesses_text plain (take i xs) ++ access_text plain (get_or xs i x)
accesses_more plain xs i x h = ap (λ s. accesses_text plain s) (take_more xs i x h) ∙ accesses_push plain (take i xs) (get_or xs i x)
