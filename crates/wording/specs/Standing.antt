-- What stands at a place, in words.
use Rattle.std.specs.Prelude.{ℕ, zero, suc, ◌+◌, false, cond, List, [], ◌++◌, length, get_or, ltb, leb, eqb, Result, Ok, Err}
use Rattle.codes.specs.declared.Instruction.{Instruction}
use Rattle.refusal.specs.Refusals.{number_of, group_of}
use Rattle.refusal.specs.declared.Refusal.{Refusal}
use Rattle.flow.specs.Targets.{next_of}
use Rattle.listing.specs.Listing.{decoded_at}
use Rattle.text.specs.Lines.{ascii}
use Rattle.text.specs.Numbers.{hex_of, decimal_of}
use Rattle.mnemonics.specs.Instructions.{text_of}

-- the byte at an address by its two digits; past the end nothing
unfoldable pub byte_text : List ℕ → ℕ → List ℕ
byte_text rom at = cond (ltb at (length rom)) (hex_of false 2 (get_or rom at 0)) []

-- the n bytes from p on
unfoldable pub bytes_at : List ℕ → ℕ → ℕ → List ℕ
bytes_at rom p zero = []
bytes_at rom p (suc n) = bytes_at rom p n ++ byte_text rom (p + n)

-- refusal 15 is a code that the set leaves out, by its group, refusal 3 an unknown one
unfoldable pub not_held_text : ℕ → List ℕ
not_held_text g = cond (eqb g 0) (ascii "unknown") (ascii "left out, group " ++ decimal_of g)

-- refusal 4 is a code cut short
unfoldable pub no_code_text : Refusal → List ℕ
no_code_text f = cond (eqb (number_of f) 4) (ascii "cut short") (not_held_text (group_of f))

abbrev pub found_text : ℕ → Result (Instruction × ℕ) Refusal → List ℕ
found_text p (Ok (i, n)) = text_of (next_of p n) i
found_text p (Err f) = no_code_text f

unfoldable pub stands_at : List ℕ → ℕ → List ℕ
stands_at rom p = cond (leb (length rom) p) (ascii "nothing") (found_text p (decoded_at rom p))
