-- The left-out codes as the code holds them, an array of rows. Nothing here is to be believed: the proof of `group` says that these are `left_out`.
use Rattle.std.specs.Prelude.{ℕ, zero, suc, ◌+◌, ◌*◌, ◌/◌, ◌%◌, List, [], ◌∷◌}
use Rattle.left.specs.Left.{Pattern, digits, Row, row}

-- the uppermost bytes of two numbers of 64 bits: the least and the most of its digits
abbrev pub between : ℕ → ℕ → Pattern
between a b = digits (a / 72057594037927936 / 16) (b / 72057594037927936 / 16) (a / 72057594037927936 % 16) (b / 72057594037927936 % 16)

-- byte by byte; behind the last one any byte
unfoldable pub patterns_in : ℕ → ℕ → ℕ → List Pattern
patterns_in zero a b = []
patterns_in (suc n) a b = between a b ∷ patterns_in n (a % 72057594037927936 * 256) (b % 72057594037927936 * 256 + 255)

-- a row of the table: the group, the number of bytes, the least and the most
abbrev pub Entry : Type 0
Entry = ℕ × ℕ × ℕ × ℕ

abbrev pub entry_row : Entry → Row
entry_row (group, count, least, most) = row group (patterns_in count least most)

unfoldable pub rows_in : List Entry → List Row
rows_in [] = []
rows_in (r ∷ t) = entry_row r ∷ rows_in t
