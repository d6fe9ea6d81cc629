-- What `h8 figure` says: the longest way in states, and whether it fits a gap.
use Rattle.std.specs.Prelude.{ℕ, ◌-◌, Bool, cond, List, [], ◌++◌, nat_le, Result, Ok, Err, Option, Some, None}
use Rattle.refusal.specs.declared.Refusal.{Refusal}
use Rattle.text.specs.Lines.{ascii}
use Rattle.text.specs.Numbers.{place_of, decimal_of}
use Rattle.wording.specs.Parts.{number_line, refused_text}

abbrev pub longest_words : ℕ → ℕ → List ℕ
longest_words entry n = ascii "the longest way from " ++ (place_of entry ++ (ascii " takes " ++ (decimal_of n ++ ascii " states\n")))

unfoldable pub longest_text : ℕ → ℕ → Bool → List ℕ
longest_text entry n plain = cond plain (number_line (ascii "figure") n) (longest_words entry n)

-- a gap, and how much of it is left or missing
abbrev pub gap_line : List ℕ → ℕ → ℕ → List ℕ → List ℕ
gap_line first gap rest last = first ++ (decimal_of gap ++ (ascii " states: " ++ (decimal_of rest ++ last)))

unfoldable pub gap_words : ℕ → ℕ → List ℕ
gap_words n gap =
    cond (nat_le n gap) (gap_line (ascii "it fits the gap of ") gap (gap - n) (ascii " are left\n"))
    (gap_line (ascii "it does not fit the gap of ") gap (n - gap) (ascii " are missing\n"))

unfoldable pub fits_plain : ℕ → ℕ → List ℕ
fits_plain n gap =
    cond (nat_le n gap) (ascii "fits yes\n" ++ number_line (ascii "left") (gap - n))
    (ascii "fits no\n" ++ number_line (ascii "missing") (n - gap))

abbrev pub gap_plain : ℕ → ℕ → List ℕ
gap_plain n gap = number_line (ascii "gap") gap ++ fits_plain n gap

unfoldable pub against_text : ℕ → ℕ → Bool → List ℕ
against_text n gap plain = cond plain (gap_plain n gap) (gap_words n gap)

abbrev pub gap_text : ℕ → Option ℕ → Bool → List ℕ
gap_text n (Some gap) plain = against_text n gap plain
gap_text n None plain = []

abbrev pub measured_text : ℕ → ℕ → Option ℕ → Bool → List ℕ
measured_text entry n gap plain = longest_text entry n plain ++ gap_text n gap plain

abbrev pub figure_text : List ℕ → Result ℕ Refusal → ℕ → Option ℕ → Bool → List ℕ
figure_text rom (Ok n) entry gap plain = measured_text entry n gap plain
figure_text rom (Err f) entry gap plain = refused_text rom f plain
