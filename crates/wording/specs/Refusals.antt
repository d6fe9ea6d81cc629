-- Refusals in words: document 01's table, "Refusal numbers", with what stands at the place.
use Rattle.std.specs.Prelude.{ℕ, ◌/◌, ◌%◌, ◌^◌, cond, List, ◌++◌, eqb, length, Result, Ok, Err}
use Rattle.refusal.specs.declared.Refusal.{Refusal}
use Rattle.refusal.specs.declared.Refusal.TheVariants.{BadBoard, FetchOutside, UnknownCode, CutShort, ReadOutside, WriteOutside, NoAdjustRow, BadEntry, NotFollowed, NotUpward, NotInstruction, BudgetTooLarge, LentTooShort, DivideFails, LeftOut, TooDeep, BadVersion, BadLength, Unfinished, ReplayEnded, TooLong}
use Rattle.paths.specs.declared.Flow.{Flow}
use Rattle.paths.specs.declared.Flow.TheVariants.{Next, Jump, Either, Call, Ends}
use Rattle.site.specs.Costs.{no_ports}
use Rattle.listing.specs.Listing.{flow_at}
use Rattle.text.specs.Lines.{ascii}
use Rattle.text.specs.Numbers.{place_of, decimal_of}
use Rattle.wording.specs.Standing.{bytes_at, stands_at}

abbrev pub at_place : ℕ → List ℕ
at_place p = ascii " at " ++ (place_of p ++ ascii ": ")

abbrev pub outside_text : ℕ → ℕ → List ℕ
outside_text n p = ascii "2" ++ (at_place p ++ (ascii "outside the ROM, which has " ++ (decimal_of n ++ ascii " bytes")))

abbrev pub unknown_text : List ℕ → ℕ → List ℕ
unknown_text rom p = ascii "3" ++ (at_place p ++ (ascii "no instruction of the set begins with the bytes " ++ bytes_at rom p 6))

abbrev pub cut_text : List ℕ → ℕ → List ℕ
cut_text rom p = ascii "4" ++ (at_place p ++ (ascii "the ROM ends within the instruction that begins with the bytes " ++ bytes_at rom p 6))

abbrev pub read_text : ℕ → List ℕ
read_text p = ascii "5" ++ (at_place p ++ ascii "a read outside the ROM and the working memory")

abbrev pub write_text : ℕ → List ℕ
write_text p = ascii "6" ++ (at_place p ++ ascii "a write outside the working memory")

abbrev pub adjust_text : List ℕ → ℕ → List ℕ
adjust_text rom p = ascii "7" ++ (at_place p ++ (stands_at rom p ++ ascii " with a value and flags that are in no row of the manual"))

abbrev pub divide_text : List ℕ → ℕ → List ℕ
divide_text rom p = ascii "14" ++ (at_place p ++ (stands_at rom p ++ ascii " by zero, or with a quotient that does not fit"))

abbrev pub entry_text : ℕ → ℕ → List ℕ
entry_text n p = ascii "8" ++ (at_place p ++ (ascii "the entry is odd or outside the ROM, which has " ++ (decimal_of n ++ ascii " bytes")))

abbrev pub follow_text : List ℕ → ℕ → List ℕ
follow_text rom p = ascii "9" ++ (at_place p ++ (stands_at rom p ++ ascii "; calls and jumps by a register or a vector are not followed"))

-- where a way that does not go up leads; ports change nothing there
abbrev pub back_of : ℕ → Result Flow Refusal → ℕ
back_of p (Ok (Next n s)) = n
back_of p (Ok (Jump t s)) = t
back_of p (Ok (Either n t s)) = t
back_of p (Ok (Call n t s)) = n
back_of p (Ok (Ends s)) = p
back_of p (Err f) = p

abbrev pub upward_text : ℕ → ℕ → List ℕ
upward_text p to = ascii "10" ++ (at_place p ++ (ascii "a branch goes back to " ++ (place_of to ++ ascii "; loops have no longest way")))

abbrev pub short_text : ℕ → List ℕ
short_text n = ascii "13: what was lent is too short; it needs " ++ (decimal_of n ++ ascii " elements")

-- document 01's groups of instructions that are left out
unfoldable pub group_name : ℕ → List ℕ
group_name g =
    cond (eqb g 3) (ascii "MOV with displacement d:24")
    (cond (eqb g 4) (ascii "LDC and STC with memory")
    (cond (eqb g 5) (ascii "EEPMOV")
    (cond (eqb g 6) (ascii "TRAPA, RTE and SLEEP") (ascii "MOVFPE and MOVTPE"))))

abbrev pub left_out_text : ℕ → ℕ → List ℕ
left_out_text p g = ascii "15" ++ (at_place p ++ (group_name g ++ (ascii ", group " ++ (decimal_of g ++ ascii ", which this set leaves out"))))

-- document 02, W9: the ninth level, and a total above 1,000,000,000
abbrev pub deep_text : List ℕ → ℕ → List ℕ
deep_text rom p = ascii "16" ++ (at_place p ++ (stands_at rom p ++ ascii " is a ninth level of calls; a routine that calls itself has no last one"))

abbrev pub long_text : ℕ → List ℕ
long_text p = ascii "22" ++ (at_place p ++ ascii "the longest way takes more than 1000000000 states")

-- of a replay; its place is a byte of the recording
abbrev pub record_text : List ℕ → ℕ → List ℕ → List ℕ
record_text number p what = number ++ (ascii " at byte " ++ (decimal_of p ++ (ascii " of the recording: " ++ what)))

abbrev pub refusal_text : List ℕ → Refusal → List ℕ
refusal_text rom BadBoard = ascii "1: the board is wrong, or PC is odd or at least 0x1000000"
refusal_text rom (FetchOutside p) = outside_text (length rom) p
refusal_text rom (UnknownCode p) = unknown_text rom p
refusal_text rom (CutShort p) = cut_text rom p
refusal_text rom (ReadOutside p) = read_text p
refusal_text rom (WriteOutside p) = write_text p
refusal_text rom (NoAdjustRow p) = adjust_text rom p
refusal_text rom (BadEntry p) = entry_text (length rom) p
refusal_text rom (NotFollowed p) = follow_text rom p
refusal_text rom (NotUpward p) = upward_text p (back_of p (flow_at no_ports rom p))
refusal_text rom NotInstruction = ascii "11: not an instruction: a field is out of range"
refusal_text rom BudgetTooLarge = ascii "12: the budget is over 1000000 steps"
refusal_text rom (LentTooShort n) = short_text n
refusal_text rom (DivideFails p) = divide_text rom p
refusal_text rom (LeftOut x) = left_out_text (x % 2 ^ 24) (x / 2 ^ 24)
refusal_text rom (TooDeep p) = deep_text rom p
refusal_text rom BadVersion = ascii "17: the recording's version is not 1"
refusal_text rom (BadLength p) = record_text (ascii "18") p (ascii "the length of the record is not 9")
refusal_text rom (Unfinished p) = record_text (ascii "19") p (ascii "the recording ends before the record does")
refusal_text rom ReplayEnded = ascii "20: the replay has ended"
refusal_text rom (TooLong p) = long_text p
