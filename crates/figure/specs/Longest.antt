-- What `way` promises: the longest way itself.
use Rattle.std.specs.Prelude.{◌≡◌, List, ℕ, length, Ok, Err, Result, Option}
use Rattle.site.specs.declared.Site.{Site}
use Rattle.refusal.specs.declared.Refusal.{Refusal}
use Rattle.refusal.specs.declared.Refusal.TheVariants.{TooLong}
use Rattle.paths.specs.Paths.{Forbidden, Open, Lowest, IsFigure, Over, RowsFrom, Follows, NextOnTie}
use Rattle.listing.specs.Listing.{flow_at}
use Rattle.figure.specs.Answer.{asked_of}

-- the input is fit, and the table has the rows that `figure` leaves
abbrev pub ByTable : Site → List ℕ → List ℕ → ℕ → Type 0
ByTable k rom table place = (asked_of k (length rom) (length table) place ≡ Ok tt) × RowsFrom (flow_at k rom) (length rom) table 0

-- what is promised of `next place`, where `next` answers for every place by that table
pub record WayTold (k : Site) (rom table : List ℕ) (next : ℕ → Result (Option ℕ) Refusal) (place : ℕ) : Type 0 where
  -- bad input is refused as `figure` refuses it
  pub unfit : (f : Refusal) → asked_of k (length rom) (length table) place ≡ Err f → next place ≡ Err f
  -- followed from a place with a figure, what is answered is a path to a return with so many states in all
  pub longest : ByTable k rom table place → (n : ℕ) → IsFigure (flow_at k rom) place n → Follows (flow_at k rom) next place n
  -- on a tie it goes on at the next instruction
  pub tie : ByTable k rom table place → (n : ℕ) → IsFigure (flow_at k rom) place n → NextOnTie (flow_at k rom) place (next place)
  -- a place without one is refused as `figure` refuses it
  pub over : ByTable k rom table place → Over (flow_at k rom) place → next place ≡ Err (TooLong place)
  pub refused : ByTable k rom table place → (d f : ℕ) (r : Refusal) → Lowest (flow_at k rom) 8 place f → Forbidden (flow_at k rom) d f r
      → (f ≡ place → Open (flow_at k rom) 8 place → ⊥) → next place ≡ Err r
  -- but for a call that is itself the lowest forbidden place (16, for it comes to itself again, nine levels deep): the table has of it what it has of a
  -- total above 1,000,000,000, and the answer is 22
  pub own : ByTable k rom table place → Lowest (flow_at k rom) 8 place place → Open (flow_at k rom) 8 place → next place ≡ Err (TooLong place)
