-- A line of text that is being written, and texts as lists of ASCII codes.
use Rattle.std.specs.Prelude.{ℕ, cond, List, [], ◌∷◌, ◌++◌, ltb, length}
use Prim.Native.Char.{code}
use Prim.Native.String.{String, [] as empty, ◌∷◌ as ◌then◌}

abbrev pub ascii : String → List ℕ
ascii empty = []
ascii (c then s) = code c ∷ ascii s

-- one byte more, where it fits: a line holds 192
unfoldable pub put_of : List ℕ → ℕ → List ℕ
put_of l b = cond (ltb (length l) 192) (l ++ b ∷ []) l

-- a text more
unfoldable pub added : List ℕ → List ℕ → List ℕ
added l [] = l
added l (b ∷ s) = added (put_of l b) s
