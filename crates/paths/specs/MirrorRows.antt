-- A row from the rows that it hangs on. Nothing to believe: `proofs/Rows.antt` shows that it is what `Paths` says, and `proofs/Packed.antt` that it is what the
-- code finds.
use Rattle.std.specs.Prelude.{ℕ, ◌+◌, ◌-◌, ◌%◌, ◌^◌, min, max, cond, ◌||◌, List, ◌==◌, nat_le, nat_lt, slice_index, Result, Ok, Err, Option, Some, None}
use Rattle.refusal.specs.declared.Refusal.{Refusal}
use Rattle.refusal.specs.declared.Refusal.TheVariants.{NotUpward, TooDeep, TooLong}
use Rattle.paths.specs.declared.Reckoned.{Reckoned}
use Rattle.paths.specs.declared.Flow.{Flow}
use Rattle.paths.specs.declared.Flow.TheVariants.{Next, Jump, Either, Call, Ends}

abbrev pub barred : ℕ → Reckoned
barred p = record { figure = 0; low = p }

-- the row of q in the table of a memory of `len` bytes
unfoldable pub row_of : ℕ → List ℕ → ℕ → Reckoned
row_of len table q = cond (nat_lt q len) (record { figure = slice_index table q; low = slice_index table (q + 1) }) (barred q)

-- a packed row: the lower half of a number, a figure as it is, or a lowest forbidden place taken from 2^32 - 1
unfoldable pub unpacked_of : ℕ → Reckoned
unpacked_of x = cond (nat_lt 4278190080 (x % 4294967296)) (record { figure = 0; low = 4294967295 - x % 4294967296 }) (record { figure = x % 4294967296; low = 16777215 })

-- the row of q with d levels of calls left, in a table of packed rows
unfoldable pub level_of : ℕ → List ℕ → ℕ → ℕ → Reckoned
level_of len table d q = cond (nat_lt q len) (unpacked_of (slice_index table (q + d % 2))) (barred q)

-- what a table is left with, of the row of p with eight levels left
unfoldable pub shown_of : ℕ → Reckoned → Reckoned
shown_of p r = cond (nat_lt 1000000000 r.figure) (barred p) r

-- the row by an instruction of s states with `rest` after it, and two lowest forbidden places; a total is held at 1,000,000,001
unfoldable pub total_of : ℕ → ℕ → ℕ → ℕ → Reckoned
total_of s rest a b = record { figure = cond (min a b == 16777215) (min ((s + rest) % 2 ^ 64) 1000000001) 0; low = min a b }

-- the row above two rows, and the row of a call: the routine's row, and that of what follows
unfoldable pub joined : ℕ → Reckoned → Reckoned → Reckoned
joined s a b = total_of s (max a.figure b.figure) a.low b.low

unfoldable pub called_of : ℕ → Reckoned → Reckoned → Reckoned
called_of s a b = total_of s ((a.figure + b.figure) % 2 ^ 64) a.low b.low

-- by the rows with as many levels left, and with one less
module _ (same less : ℕ → Reckoned) where
  unfoldable pub upward_of : ℕ → ℕ → ℕ → ℕ → Reckoned
  upward_of p n t s = cond (nat_le n p || nat_le t p) (barred p) (joined s (same n) (same t))

  unfoldable pub entered_of : ℕ → ℕ → ℕ → ℕ → ℕ → Reckoned
  entered_of d p n t s = cond (d == 0) (barred p) (called_of s (less t) (same n))

  unfoldable pub reckoned_of : ℕ → ℕ → Result Flow Refusal → Reckoned
  reckoned_of d p (Ok (Next n s)) = upward_of p n n s
  reckoned_of d p (Ok (Jump t s)) = upward_of p t t s
  reckoned_of d p (Ok (Either n t s)) = upward_of p n t s
  reckoned_of d p (Ok (Call n t s)) = entered_of d p n t s
  reckoned_of d p (Ok (Ends s)) = record { figure = min s 1000000001; low = 16777215 }
  reckoned_of d p (Err r) = barred p

-- why a place is forbidden, if it is
unfoldable pub why_of : ℕ → Result Flow Refusal → Refusal
why_of p (Ok (Next n s)) = NotUpward p
why_of p (Ok (Jump t s)) = NotUpward p
why_of p (Ok (Either n t s)) = NotUpward p
why_of p (Ok (Call n t s)) = TooDeep p
why_of p (Ok (Ends s)) = NotUpward p
why_of p (Err r) = r

-- why a table has a place's own address in its row: it is forbidden with eight levels left, or its total is above 1,000,000,000
unfoldable pub turned_of : ℕ → ℕ → ℕ → Refusal
turned_of p n t = cond (nat_le n p || nat_le t p) (NotUpward p) (TooLong p)

unfoldable pub own_of : ℕ → Result Flow Refusal → Refusal
own_of p (Ok (Next n s)) = turned_of p n n
own_of p (Ok (Jump t s)) = turned_of p t t
own_of p (Ok (Either n t s)) = turned_of p n t
own_of p (Ok (Call n t s)) = TooLong p
own_of p (Ok (Ends s)) = TooLong p
own_of p (Err r) = r

-- where the longest way goes on, or that it returns there
unfoldable pub better_of : ℕ → List ℕ → ℕ → ℕ → ℕ
better_of len table n t = cond (nat_lt (row_of len table n).figure (row_of len table t).figure) t n

unfoldable pub toward_of : ℕ → List ℕ → Flow → Option ℕ
toward_of len table (Next n s) = Some n
toward_of len table (Jump t s) = Some t
toward_of len table (Either n t s) = Some (better_of len table n t)
toward_of len table (Call n t s) = Some n
toward_of len table (Ends s) = None

unfoldable pub onward_of : ℕ → List ℕ → Result Flow Refusal → Result (Option ℕ) Refusal
onward_of len table (Ok f) = Ok (toward_of len table f)
onward_of len table (Err r) = Err r
