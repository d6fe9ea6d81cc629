-- What `h8 list` and `h8 way` say of a place: its address, bytes, text and states, and last the total or the figure.
use Rattle.std.specs.Prelude.{ℕ, ◌+◌, ◌%◌, ◌^◌, Bool, cond, List, [], ◌++◌, length, ◌==◌, Result, Ok, Err}
use Rattle.refusal.specs.declared.Refusal.{Refusal}
use Rattle.codes.specs.declared.Instruction.{Instruction}
use Rattle.paths.specs.declared.Reckoned.{Reckoned}
use Rattle.paths.specs.MirrorRows.{row_of}
use Rattle.site.specs.declared.Site.{Site}
use Rattle.timing.specs.Made.{most_of}
use Rattle.listing.specs.Listing.{decoded_at}
use Rattle.text.specs.Lines.{ascii}
use Rattle.text.specs.Numbers.{place_of, decimal_of}
use Rattle.wording.specs.Standing.{bytes_at, found_text}
use Rattle.wording.specs.Parts.{number_line, place_line, pad_to}

-- how many bytes stand at a place: a code has at most eight; an unknown word and one cut short are shown with two
abbrev pub length_of : Result (Instruction × ℕ) Refusal → ℕ
length_of (Ok (i, n)) = n % 256
length_of (Err f) = 2

-- what the figure counts for it on boards that have the site k
abbrev pub count_of : Site → Result (Instruction × ℕ) Refusal → ℕ
count_of k (Ok (i, n)) = most_of k i
count_of k (Err f) = 0

abbrev pub states_words : Site → Result (Instruction × ℕ) Refusal → List ℕ
states_words k (Ok (i, n)) = decimal_of (most_of k i)
states_words k (Err f) = ascii "-"

abbrev pub states_plain : Site → Result (Instruction × ℕ) Refusal → List ℕ
states_plain k (Ok (i, n)) = number_line (ascii "states") (most_of k i)
states_plain k (Err f) = []

abbrev pub columns_text : Site → List ℕ → ℕ → Result (Instruction × ℕ) Refusal → List ℕ
columns_text k rom p d =
    pad_to 66
    (pad_to 58 (pad_to 28 (pad_to 10 (place_of p) ++ bytes_at rom p (length_of d)) ++ found_text p d) ++ states_words k d)

abbrev pub named_text : Site → List ℕ → ℕ → Result (Instruction × ℕ) Refusal → List ℕ
named_text k rom p d =
    place_line (ascii "place") p
    ++ (ascii "bytes " ++ (bytes_at rom p (length_of d) ++ (ascii "\ntext " ++ (found_text p d ++ (ascii "\n" ++ states_plain k d)))))

-- all but what stands last
unfoldable pub standing_text : Site → List ℕ → ℕ → Result (Instruction × ℕ) Refusal → Bool → List ℕ
standing_text k rom p d plain = cond plain (named_text k rom p d) (columns_text k rom p d)

unfoldable pub last_number : List ℕ → ℕ → Bool → List ℕ
last_number name n plain = cond plain (number_line name n) (decimal_of n ++ ascii "\n")

unfoldable pub lowest_text : ℕ → Bool → List ℕ
lowest_text p plain = cond plain (place_line (ascii "lowest") p) (ascii "refused at " ++ (place_of p ++ ascii "\n"))

-- the figure, or the lowest forbidden place
unfoldable pub row_text : Reckoned → Bool → List ℕ
row_text r plain =
    cond (r.low == 16777215) (last_number (ascii "figure") r.figure plain) (lowest_text (r.low % 16777216) plain)

-- a place of a listing, by a table
unfoldable pub listed_text : Site → List ℕ → List ℕ → ℕ → Bool → List ℕ
listed_text k rom table p plain = standing_text k rom p (decoded_at rom p) plain ++ row_text (row_of (length rom) table p) plain

-- a place of a way, with the total of what the figure counts up to it
unfoldable pub on_way_text : Site → List ℕ → ℕ → ℕ → Bool → List ℕ
on_way_text k rom p total plain = standing_text k rom p (decoded_at rom p) plain ++ last_number (ascii "total") total plain

unfoldable pub total_of : Site → List ℕ → ℕ → ℕ → ℕ
total_of k rom p before = (before + count_of k (decoded_at rom p)) % 2 ^ 64

-- above the columns
unfoldable pub list_heading : Bool → List ℕ
list_heading plain = cond plain [] (ascii "place     bytes             text                          states  figure\n")

unfoldable pub way_heading : Bool → List ℕ
way_heading plain = cond plain [] (ascii "place     bytes             text                          states  total\n")
