-- What `h8 way` says at a call: the routine that it enters, with its states and the total; or how deep a place lies.
use Rattle.std.specs.Prelude.{ℕ, ◌+◌, ◌*◌, ◌%◌, ◌^◌, Bool, cond, List, [], ◌++◌, length, replicate, Option, Some, None, Result, Ok, Err}
use Prim.Native.Char.{code}
use Rattle.refusal.specs.declared.Refusal.{Refusal}
use Rattle.paths.specs.declared.Flow.{Flow}
use Rattle.paths.specs.declared.Flow.TheVariants.{Next, Jump, Either, Call, Ends}
use Rattle.paths.specs.MirrorRows.{row_of}
use Rattle.site.specs.declared.Site.{Site}
use Rattle.listing.specs.Listing.{flow_at}
use Rattle.text.specs.Lines.{ascii}
use Rattle.text.specs.Numbers.{place_of, decimal_of}
use Rattle.wording.specs.Parts.{number_line, place_line, pad_to}
use Rattle.lines.specs.Places.{last_number}

-- the routine that a call enters
abbrev pub entered_by : Result Flow Refusal → Option ℕ
entered_by (Ok (Next n s)) = None
entered_by (Ok (Jump t s)) = None
entered_by (Ok (Either n t s)) = None
entered_by (Ok (Call n t s)) = Some t
entered_by (Ok (Ends s)) = None
entered_by (Err f) = None

-- what the routine takes that is called: its figure, by a table
abbrev pub inside_of : List ℕ → List ℕ → Option ℕ → ℕ
inside_of rom table (Some t) = (row_of (length rom) table t).figure
inside_of rom table None = 0

-- the total of a way with the routine that is called at p
unfoldable pub with_call : Site → List ℕ → List ℕ → ℕ → ℕ → ℕ
with_call k rom table p before = (before + inside_of rom table (entered_by (flow_at k rom p))) % 2 ^ 64

abbrev pub inside_columns : ℕ → ℕ → List ℕ
inside_columns t n = pad_to 66 (pad_to 58 (ascii "                            the routine at " ++ place_of t) ++ decimal_of n)

abbrev pub inside_named : ℕ → ℕ → List ℕ
inside_named t n = place_line (ascii "routine") t ++ number_line (ascii "states") n

unfoldable pub inside_text : ℕ → ℕ → Bool → List ℕ
inside_text t n plain = cond plain (inside_named t n) (inside_columns t n)

abbrev pub line_text : ℕ → ℕ → ℕ → Bool → List ℕ
line_text t n total plain = inside_text t n plain ++ last_number (ascii "total") total plain

abbrev pub entered_text : List ℕ → List ℕ → Option ℕ → ℕ → Bool → List ℕ
entered_text rom table (Some t) total plain = line_text t (inside_of rom table (Some t)) total plain
entered_text rom table None total plain = []

-- the routine that is called at the place p of a way, with the total up to its end; nothing where no call stands
abbrev pub call_text : Site → List ℕ → List ℕ → ℕ → ℕ → Bool → List ℕ
call_text k rom table p total plain = entered_text rom table (entered_by (flow_at k rom p)) total plain

-- before a place that lies so many calls deep: two spaces for each
unfoldable pub level_text : ℕ → Bool → List ℕ
level_text depth plain = cond plain (number_line (ascii "level") depth) (replicate (depth * 2) (code " "))
