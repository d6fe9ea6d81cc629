-- host/h8.h, "ANSWERS": "numbers past them stay as they were".
use Rattle.std.specs.Prelude.{ℕ, List, [], ◌∷◌, ◌++◌, length, get_or, drop}

-- a lent array with its first numbers replaced
unfoldable pub overwrite : List ℕ → List ℕ → List ℕ
overwrite xs l = xs ++ drop (length xs) l

-- the eight numbers of an array of eight
unfoldable pub eight_of : List ℕ → List ℕ
eight_of l =
    get_or l 0 0 ∷ get_or l 1 0 ∷ get_or l 2 0 ∷ get_or l 3 0 ∷ get_or l 4 0 ∷ get_or l 5 0 ∷ get_or l 6 0 ∷ get_or l 7 0 ∷ []
