-- What `h8 replay` says: that all records agree, which differs and where, or what was refused (document 02, W7).
use Rattle.std.specs.Prelude.{ℕ, Bool, false, cond, List, ◌++◌, eqb}
use Rattle.refusal.specs.Refusals.{number_of}
use Rattle.refusal.specs.declared.Refusal.{Refusal}
use Rattle.replay.specs.declared.Field.{Field}
use Rattle.replay.specs.declared.Field.TheVariants.{OfPc, OfCondition, OfStates}
use Rattle.text.specs.Lines.{ascii}
use Rattle.text.specs.Numbers.{hex_of, place_of, decimal_of}
use Rattle.wording.specs.Standing.{stands_at}
use Rattle.wording.specs.Parts.{number_line, place_line, before_text, refused_text}

-- so many records, each of a step, with so many states together; `first` and `last` stand around them
unfoldable pub replayed_text : List ℕ → ℕ → List ℕ → ℕ → Bool → List ℕ
replayed_text first records middle states plain =
    cond plain (number_line (ascii "agreed") records ++ number_line (ascii "states") states)
    (first ++ (decimal_of records ++ (middle ++ (decimal_of states ++ ascii "\n"))))

abbrev pub field_words : Field → List ℕ
field_words OfPc = ascii "PC is "
field_words OfCondition = ascii "the condition byte is "
field_words OfStates = ascii "the number of states is "

abbrev pub field_name : Field → List ℕ
field_name OfPc = ascii "field pc\n"
field_name OfCondition = ascii "field condition\n"
field_name OfStates = ascii "field states\n"

abbrev pub value_text : Field → ℕ → List ℕ
value_text OfPc v = place_of v
value_text OfCondition v = ascii "0x" ++ hex_of false 2 v
value_text OfStates v = decimal_of v

-- records are counted from 1
abbrev pub differs_words : ℕ → Field → ℕ → ℕ → List ℕ
differs_words n f here there =
    ascii "record "
    ++ (decimal_of n ++ (ascii " differs: " ++ (field_words f ++ (value_text f here ++ (ascii " here and " ++ (value_text f there ++ ascii " in the recording\n"))))))

abbrev pub differs_plain : ℕ → Field → ℕ → ℕ → List ℕ
differs_plain n f here there =
    number_line (ascii "record") n ++ (field_name f ++ (ascii "here " ++ (value_text f here ++ (ascii "\nrecorded " ++ (value_text f there ++ ascii "\n")))))

unfoldable pub differs_text : ℕ → Field → ℕ → ℕ → Bool → List ℕ
differs_text n f here there plain = cond plain (differs_plain n f here there) (differs_words n f here there)

-- the instruction at PC
unfoldable pub there_text : List ℕ → ℕ → Bool → List ℕ
there_text rom p plain =
    cond plain (place_line (ascii "place") p ++ (ascii "text " ++ (stands_at rom p ++ ascii "\n")))
    (ascii "at " ++ (place_of p ++ (ascii " stands " ++ (stands_at rom p ++ ascii "\n"))))

-- 12 is of the recording here
unfoldable pub stopped_text : List ℕ → Refusal → Bool → List ℕ
stopped_text rom f plain =
    cond (eqb (number_of f) 12) (before_text f plain ++ ascii "12: the recording has more than 1000000 records\n") (refused_text rom f plain)
