-- Document 01, "The routine's figure", and document 02, W9. `flow p` says what stands at the place p: where paths go from it, and its states.
-- Nothing here speaks of an instruction set, or of how a figure is found.
use Rattle.std.specs.Prelude.{◌≡◌, ℕ, suc, ◌+◌, ◌%◌, ◌<◌, ◌≤◌, ◌⊎◌, List, slice_index, Result, Ok, Err, Option, Some, None}
use Rattle.refusal.specs.declared.Refusal.{Refusal}
use Rattle.refusal.specs.declared.Refusal.TheVariants.{NotUpward, TooDeep}
use Rattle.paths.specs.declared.Flow.{Flow}
use Rattle.paths.specs.declared.Flow.TheVariants.{Next, Jump, Either, Call, Ends}

-- places are the even addresses below 2^24
pub record IsPlace (p : ℕ) : Type 0 where
  pub even : p % 2 ≡ 0
  pub in_range : p < 16777216

-- paths go on to the place q; after a call, to the next instruction
abbrev pub Leads : Result Flow Refusal → ℕ → Type 0
Leads (Ok (Next n s)) q = q ≡ n
Leads (Ok (Jump t s)) q = q ≡ t
Leads (Ok (Either n t s)) q = (q ≡ n) ⊎ (q ≡ t)
Leads (Ok (Call n t s)) q = q ≡ n
Leads (Ok (Ends s)) q = ⊥
Leads (Err r) q = ⊥

-- a call enters the routine at q
abbrev pub Enters : Result Flow Refusal → ℕ → Type 0
Enters (Ok (Next n s)) q = ⊥
Enters (Ok (Jump t s)) q = ⊥
Enters (Ok (Either n t s)) q = ⊥
Enters (Ok (Call n t s)) q = q ≡ t
Enters (Ok (Ends s)) q = ⊥
Enters (Err r) q = ⊥

-- the states of what stands there
abbrev pub count_of : Result Flow Refusal → ℕ
count_of (Ok (Next n s)) = s
count_of (Ok (Jump t s)) = s
count_of (Ok (Either n t s)) = s
count_of (Ok (Call n t s)) = s
count_of (Ok (Ends s)) = s
count_of (Err r) = 0

-- with d levels of calls left the place p is forbidden, with its refusal: by what stands there (2, 3, 4, 9, 15), by a path to a target not above its own
-- address (10), or by a call with no level left (16)
pub data Forbidden (flow : ℕ → Result Flow Refusal) : ℕ → ℕ → Refusal → Type 0 where
  stop : {d p : ℕ} {r : Refusal} → flow p ≡ Err r → Forbidden flow d p r
  back : {d p q : ℕ} → Leads (flow p) q → q ≤ p → Forbidden flow d p (NotUpward p)
  deep : {p : ℕ} (t : ℕ) → Enters (flow p) t → Forbidden flow 0 p (TooDeep p)

-- the place p is not forbidden
abbrev pub Open : (ℕ → Result Flow Refusal) → ℕ → ℕ → Type 0
Open flow d p = (r : Refusal) → Forbidden flow d p r → ⊥

-- a path from p to a return, with d levels of calls left, whose instructions have n states in all, those of the routines that it calls with them: a call
-- takes a path of the routine that it enters, which has a level less, and goes on after it
pub data Path (flow : ℕ → Result Flow Refusal) : ℕ → ℕ → ℕ → Type 0 where
  ends : {d p n : ℕ} → flow p ≡ Ok (Ends n) → Path flow d p n
  goes : {d p q n : ℕ} → Open flow d p → ((t : ℕ) → Enters (flow p) t → ⊥) → Leads (flow p) q → Path flow d q n → Path flow d p (count_of (flow p) + n)
  calls : {d p q t n m : ℕ} → Enters (flow p) t → Path flow d t m → Leads (flow p) q → Open flow (suc d) p → Path flow (suc d) q n → Path flow (suc d) p (count_of (flow p) + m + n)

-- a path from p, or of a routine that it calls, comes to the forbidden place f, where it ends
pub data Meets (flow : ℕ → Result Flow Refusal) : ℕ → ℕ → ℕ → Type 0 where
  here : {d p : ℕ} {r : Refusal} → Forbidden flow d p r → Meets flow d p p
  later : {d p q f : ℕ} → Open flow d p → Leads (flow p) q → Meets flow d q f → Meets flow d p f
  into : {d p t f : ℕ} → Open flow (suc d) p → Enters (flow p) t → Meets flow d t f → Meets flow (suc d) p f

-- n is the largest total of states over all paths from p. Of a call it is its own states, the largest total of the routine that it enters and that of what
-- follows: `call_largest` of `proofs/Laws.antt`
pub record Largest (flow : ℕ → Result Flow Refusal) (d p n : ℕ) : Type 0 where
  pub some : Path flow d p n
  pub most : (m : ℕ) → Path flow d p m → m ≤ n

-- no path from p meets a forbidden place
abbrev pub Clear : (ℕ → Result Flow Refusal) → ℕ → ℕ → Type 0
Clear flow d p = (f : ℕ) → Meets flow d p f → ⊥

-- f is the lowest forbidden place that a path from p meets
pub record Lowest (flow : ℕ → Result Flow Refusal) (d p f : ℕ) : Type 0 where
  pub met : Meets flow d p f
  pub least : (g : ℕ) → Meets flow d p g → f ≤ g

-- "each row is reckoned with eight levels left". n is the figure of p: no path meets a forbidden place, and n is the largest total, at most 1,000,000,000
pub record IsFigure (flow : ℕ → Result Flow Refusal) (p n : ℕ) : Type 0 where
  pub clear : Clear flow 8 p
  pub largest : Largest flow 8 p n
  pub held : n ≤ 1000000000

-- no path meets a forbidden place, and the largest total is above that (22)
pub record Over (flow : ℕ → Result Flow Refusal) (p : ℕ) : Type 0 where
  pub total : ℕ
  pub clear : Clear flow 8 p
  pub largest : Largest flow 8 p total
  pub above : 1000000000 < total

-- what a table says of the place p: the figure and 16,777,215; 0 and its own address, where the total is above 1,000,000,000; or 0 and the lowest
-- forbidden place
pub data Row (flow : ℕ → Result Flow Refusal) (p : ℕ) : ℕ → ℕ → Type 0 where
  figure : {n : ℕ} → IsFigure flow p n → Row flow p n 16777215
  over : Over flow p → Row flow p 0 p
  refused : {f : ℕ} → Lowest flow 8 p f → Row flow p 0 f

-- a table's rows of the places from i up, of a memory of `len` bytes: two numbers a place, in rising order, so those of p stand at p and p + 1
abbrev pub RowsFrom : (ℕ → Result Flow Refusal) → ℕ → List ℕ → ℕ → Type 0
RowsFrom flow len table i = (p : ℕ) → i ≤ p → p % 2 ≡ 0 → p < len → Row flow p (slice_index table p) (slice_index table (p + 1))

-- `next`, followed from p, is a path to a return, whose instructions have n states in all; a call counts with the longest path of the routine that it enters
pub data Follows (flow : ℕ → Result Flow Refusal) (next : ℕ → Result (Option ℕ) Refusal) : ℕ → ℕ → Type 0 where
  home : {p n : ℕ} → next p ≡ Ok None → flow p ≡ Ok (Ends n) → Follows flow next p n
  on : {p q n : ℕ} → next p ≡ Ok (Some q) → Open flow 8 p → ((t : ℕ) → Enters (flow p) t → ⊥) → Leads (flow p) q → Follows flow next q n → Follows flow next p (count_of (flow p) + n)
  past : {p q t m n : ℕ} → next p ≡ Ok (Some q) → Open flow 8 p → Enters (flow p) t → Largest flow 7 t m → Leads (flow p) q → Follows flow next q n
      → Follows flow next p (count_of (flow p) + m + n)

-- on a tie, where next instruction and target have the same largest total, `way` goes on at the next instruction
abbrev pub NextOnTie : (ℕ → Result Flow Refusal) → ℕ → Result (Option ℕ) Refusal → Type 0
NextOnTie flow p way = (n t s m : ℕ) → flow p ≡ Ok (Either n t s) → Largest flow 8 n m → Largest flow 8 t m → way ≡ Ok (Some n)
