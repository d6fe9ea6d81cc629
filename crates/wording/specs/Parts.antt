-- Lines of one name and value, columns, and refusals. With `plain` an answer has one name and value a line, without it a sentence or columns.
use Rattle.std.specs.Prelude.{ℕ, ◌-◌, Bool, cond, List, [], ◌++◌, eqb, length, replicate}
use Prim.Native.Char.{code}
use Rattle.refusal.specs.Refusals.{number_of, place_of as placeGiven, group_of}
use Rattle.refusal.specs.declared.Refusal.{Refusal}
use Rattle.text.specs.Lines.{ascii}
use Rattle.text.specs.Numbers.{place_of, decimal_of}
use Rattle.wording.specs.Refusals.{refusal_text}

abbrev pub number_line : List ℕ → ℕ → List ℕ
number_line name n = name ++ (ascii " " ++ (decimal_of n ++ ascii "\n"))

abbrev pub place_line : List ℕ → ℕ → List ℕ
place_line name p = name ++ (ascii " " ++ (place_of p ++ ascii "\n"))

-- a text with spaces up to the column k
abbrev pub pad_to : ℕ → List ℕ → List ℕ
pad_to k s = s ++ replicate (k - length s) (code " ")

-- the group of a code that is left out; other refusals have none
unfoldable pub group_line : ℕ → List ℕ
group_line g = cond (eqb g 0) [] (number_line (ascii "group") g)

abbrev pub numbered_text : Refusal → List ℕ
numbered_text f = number_line (ascii "refusal") (number_of f) ++ (place_line (ascii "place") (placeGiven f) ++ (group_line (group_of f) ++ ascii "why "))

-- what stands before a refusal's words
unfoldable pub before_text : Refusal → Bool → List ℕ
before_text f plain = cond plain (numbered_text f) (ascii "refused: ")

abbrev pub refused_text : List ℕ → Refusal → Bool → List ℕ
refused_text rom f plain = before_text f plain ++ (refusal_text rom f ++ ascii "\n")
