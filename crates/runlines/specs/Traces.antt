-- What `h8 run --trace` says of a step: its place, text and states, and the data accesses that it made, in the order made.
use Rattle.std.specs.Prelude.{ℕ, Bool, true, false, cond, List, [], ◌∷◌, ◌++◌}
use Rattle.memory.specs.declared.told.Access.{Access}
use Rattle.listing.specs.Listing.{decoded_at}
use Rattle.text.specs.Lines.{ascii}
use Rattle.text.specs.Numbers.{hex_of, place_of, decimal_of}
use Rattle.wording.specs.Standing.{found_text}
use Rattle.wording.specs.Parts.{number_line, place_line, pad_to}

-- `R2 H'FFEF10`: a read of two bytes. W: a write
abbrev pub way_words : Bool → List ℕ
way_words false = ascii "  R"
way_words true = ascii "  W"

abbrev pub access_words : Access → List ℕ
access_words x = way_words x.write ++ (decimal_of x.bytes ++ (ascii " H'" ++ hex_of true 6 x.place))

-- `read 2 0xffef10`
abbrev pub way_plain : Bool → List ℕ
way_plain false = ascii "read "
way_plain true = ascii "write "

abbrev pub access_plain : Access → List ℕ
access_plain x = way_plain x.write ++ (decimal_of x.bytes ++ (ascii " " ++ (place_of x.place ++ ascii "\n")))

unfoldable pub access_text : Bool → Access → List ℕ
access_text plain x = cond plain (access_plain x) (access_words x)

abbrev pub accesses_text : Bool → List Access → List ℕ
accesses_text plain [] = []
accesses_text plain (x ∷ xs) = access_text plain x ++ accesses_text plain xs

-- a step at the place p, of so many states
abbrev pub traced_words : List ℕ → ℕ → ℕ → List ℕ
traced_words rom p states = pad_to 40 (pad_to 10 (place_of p) ++ found_text p (decoded_at rom p)) ++ decimal_of states

abbrev pub traced_plain : List ℕ → ℕ → ℕ → List ℕ
traced_plain rom p states =
    place_line (ascii "place") p ++ (ascii "text " ++ (found_text p (decoded_at rom p) ++ (ascii "\n" ++ number_line (ascii "states") states)))

unfoldable pub stepped_text : List ℕ → ℕ → ℕ → Bool → List ℕ
stepped_text rom p states plain = cond plain (traced_plain rom p states) (traced_words rom p states)

-- with `plain` each access has ended its own line
unfoldable pub end_text : Bool → List ℕ
end_text plain = cond plain [] (ascii "\n")

unfoldable pub traced_text : List ℕ → ℕ → ℕ → List Access → Bool → List ℕ
traced_text rom p states xs plain = stepped_text rom p states plain ++ (accesses_text plain xs ++ end_text plain)

-- above the columns
unfoldable pub trace_heading : Bool → List ℕ
trace_heading plain = cond plain [] (ascii "place     text                          states, reads and writes\n")
