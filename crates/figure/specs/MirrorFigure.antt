-- The answers by a row, as the code finds them. Nothing to believe.
use Rattle.std.specs.Prelude.{cond, List, ℕ, ◌%◌, length, eqb, ltb, Result, Ok, Err, Option}
use Rattle.site.specs.declared.Site.{Site}
use Rattle.refusal.specs.declared.Refusal.{Refusal}
use Rattle.refusal.specs.declared.Refusal.TheVariants.{TooLong}
use Rattle.paths.specs.declared.Reckoned.{Reckoned}
use Rattle.paths.specs.declared.Flow.{Flow}
use Rattle.paths.specs.MirrorRows.{row_of, why_of, own_of, onward_of}
use Rattle.listing.specs.Listing.{flow_at}
use Rattle.figure.specs.Answer.{asked_of}

unfoldable pub why_at : (ℕ → Result Flow Refusal) → ℕ → Refusal
why_at flow low = why_of (low % 16777216) (flow (low % 16777216))

unfoldable pub figure_of : ℕ → ℕ → Result ℕ Refusal
figure_of entry n = cond (ltb 1000000000 n) (Err (TooLong entry)) (Ok n)

unfoldable pub verdict_of : (ℕ → Result Flow Refusal) → ℕ → Reckoned → Result ℕ Refusal
verdict_of flow entry r = cond (eqb r.low 16777215) (figure_of entry r.figure) (Err (why_at flow r.low))

-- what `way` answers
unfoldable pub no_way_of : (ℕ → Result Flow Refusal) → ℕ → ℕ → Refusal
no_way_of flow place low = cond (eqb low place) (own_of place (flow place)) (why_at flow low)

unfoldable pub on_from : (ℕ → Result Flow Refusal) → ℕ → List ℕ → ℕ → Reckoned → Result (Option ℕ) Refusal
on_from flow len table place r = cond (eqb r.low 16777215) (onward_of len table (flow place)) (Err (no_way_of flow place r.low))

unfoldable pub way_asked : (ℕ → Result Flow Refusal) → ℕ → List ℕ → ℕ → Result (Unit {0}) Refusal → Result (Option ℕ) Refusal
way_asked flow len table place (Err f) = Err f
way_asked flow len table place (Ok tt) = on_from flow len table place (row_of len table place)

unfoldable pub way_of : Site → List ℕ → List ℕ → ℕ → Result (Option ℕ) Refusal
way_of k rom table place = way_asked (flow_at k rom) (length rom) table place (asked_of k (length rom) (length table) place)
