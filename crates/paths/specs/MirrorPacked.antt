-- A packed row from the packed rows that it hangs on, and what is noted of a place, as the code has them. Nothing to believe: `proofs/Packed.antt` shows that
-- unpacked they are the rows of `MirrorRows`.
use Rattle.std.specs.Prelude.{ℕ, ◌+◌, ◌-◌, ◌*◌, ◌/◌, ◌%◌, ◌^◌, min, max, cond, ◌||◌, List, ◌==◌, nat_le, nat_lt, slice_index, Result, Ok, Err}
use Rattle.refusal.specs.declared.Refusal.TheVariants.{NotUpward}
use Rattle.refusal.specs.declared.Refusal.{Refusal}
use Rattle.paths.specs.declared.Flow.{Flow}
use Rattle.paths.specs.declared.Flow.TheVariants.{Next, Jump, Either, Call, Ends}
use Rattle.paths.specs.declared.Kind.{Kind}
use Rattle.paths.specs.declared.Kind.TheVariants.{Stops, Returns, Goes, Calls}
use Rattle.paths.specs.declared.Notes.{Notes}

unfoldable pub packed_bar : ℕ → ℕ
packed_bar p = 4294967295 - p

-- the packed row of q with d levels of calls left
unfoldable pub packed_at : ℕ → List ℕ → ℕ → ℕ → ℕ
packed_at len table d q = cond (nat_lt q len) (slice_index table (q + d % 2) % 4294967296) (packed_bar q)

-- by an instruction of s states with `rest` after it, where `top` is the larger of the rows that it hangs on
unfoldable pub packed_total : ℕ → ℕ → ℕ → ℕ
packed_total s rest top = cond (nat_lt 4278190080 top) top (min ((s + rest) % 2 ^ 64) 1000000001)

unfoldable pub packed_join : ℕ → ℕ → ℕ → ℕ
packed_join s a b = packed_total s (max a b) (max a b)

unfoldable pub packed_call : ℕ → ℕ → ℕ → ℕ
packed_call s a b = packed_total s ((a + b) % 2 ^ 64) (max a b)

-- by the rows with as many levels left, and with one less
module _ (same less : ℕ → ℕ) where
  unfoldable pub packed_up : ℕ → ℕ → ℕ → ℕ → ℕ
  packed_up p n t s = cond (nat_le n p || nat_le t p) (packed_bar p) (packed_join s (same n) (same t))

  unfoldable pub packed_in : ℕ → ℕ → ℕ → ℕ → ℕ → ℕ
  packed_in d p n t s = cond (d == 0) (packed_bar p) (packed_call s (less t) (same n))

  unfoldable pub packed_flow : ℕ → ℕ → Result Flow Refusal → ℕ
  packed_flow d p (Ok (Next n s)) = packed_up p n n s
  packed_flow d p (Ok (Jump t s)) = packed_up p t t s
  packed_flow d p (Ok (Either n t s)) = packed_up p n t s
  packed_flow d p (Ok (Call n t s)) = packed_in d p n t s
  packed_flow d p (Ok (Ends s)) = min s 1000000001
  packed_flow d p (Err r) = packed_bar p

-- the number of a kind, and the kind of a number
abbrev pub number_of : Kind → ℕ
number_of Stops = 0
number_of Returns = 1
number_of Goes = 2
number_of Calls = 3

abbrev pub kind_at : ℕ → Kind
kind_at n = cond (n == 0) Stops (cond (n == 1) Returns (cond (n == 2) Goes Calls))

-- what is noted of a place: a kind, two places and its states
unfoldable pub notes_for : Kind → ℕ → ℕ → ℕ → Notes
notes_for kind n t s = record { to = (t % 16777216 + number_of kind * 16777216) * 4294967296; on = (n % 16777216 + s % 256 * 16777216) * 4294967296 }

unfoldable pub notes_of : Result Flow Refusal → Notes
notes_of (Ok (Next n s)) = notes_for Goes n n s
notes_of (Ok (Jump t s)) = notes_for Goes t t s
notes_of (Ok (Either n t s)) = notes_for Goes n t s
notes_of (Ok (Call n t s)) = notes_for Calls n t s
notes_of (Ok (Ends s)) = notes_for Returns 0 0 s
notes_of (Err r) = notes_for Stops 0 0 0

-- and what that tells, of the upper halves: all that rows are reckoned from
unfoldable pub kind_of : Kind → ℕ → ℕ → ℕ → Result Flow Refusal
kind_of Stops n t s = Err (NotUpward 0)
kind_of Returns n t s = Ok (Ends s)
kind_of Goes n t s = Ok (Either n t s)
kind_of Calls n t s = Ok (Call n t s)

unfoldable pub noted_of : ℕ → ℕ → Result Flow Refusal
noted_of to on = kind_of (kind_at (to / 16777216)) (on % 16777216) (to % 16777216) (on / 16777216)

unfoldable pub plain_of : Result Flow Refusal → Result Flow Refusal
plain_of (Ok (Next n s)) = Ok (Either n n s)
plain_of (Ok (Jump t s)) = Ok (Either t t s)
plain_of (Ok (Either n t s)) = Ok (Either n t s)
plain_of (Ok (Call n t s)) = Ok (Call n t s)
plain_of (Ok (Ends s)) = Ok (Ends s)
plain_of (Err r) = Err (NotUpward 0)
