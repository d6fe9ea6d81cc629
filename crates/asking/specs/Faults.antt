-- What is wrong with an argument, in one line: its name, what it is and what was expected. The argument as it was given, which may be
-- longer than a line holds, stands between `wrong_text` and `expected_text`.
use Rattle.std.specs.Prelude.{ℕ, Bool, cond, ◌||◌, List, ◌++◌, ltb, eqb}
use Prim.Native.Char.{code}
use Rattle.text.specs.Lines.{ascii}

unfoldable pub error_text : Bool → List ℕ
error_text plain = cond plain (ascii "error ") (ascii "error: ")

abbrev pub missing_text : Bool → List ℕ → List ℕ → List ℕ
missing_text plain name expected = error_text plain ++ (name ++ (ascii " is missing: expected " ++ (expected ++ ascii "\n")))

abbrev pub wrong_text : Bool → List ℕ → List ℕ → List ℕ
wrong_text plain name is = error_text plain ++ (name ++ is)

abbrev pub expected_text : List ℕ → List ℕ
expected_text expected = ascii ": expected " ++ (expected ++ ascii "\n")

-- a byte that would end the line or steer the screen is shown as a question mark
unfoldable pub shown_of : ℕ → ℕ
shown_of b = cond (ltb b 32 || eqb b 127) (code "?") b
