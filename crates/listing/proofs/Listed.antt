-- A read-only memory of good length is a listing, over which the laws of paths hold.
-- Assumes nothing.
use Rattle.std.specs.Prelude.{Result, Ok, Err}
use mathlib.Core.Path.{◌≡◌}
use mathlib.Core.Logic.{⊎_elim}
use mathlib.Core.List.{List}
use mathlib.Core.Bool.{Bool, true, false, cond}
use Prim.Native.Nat.{ℕ, ◌%◌, ◌≤◌, ◌<◌}
use native.Mathlib.Omega.{arith}
use lib.Dec.{eqb}
use lib.ListN.{length, drop}
use borrow.Author.Tests.{le-leb, lt-leb}
use Rattle.codes.specs.declared.Instruction.{Instruction}
use Rattle.refusal.specs.declared.Refusal.{Refusal}
use Rattle.refusal.specs.declared.Refusal.TheVariants.{FetchOutside, NotFollowed}
use Rattle.codes.specs.declared.Goes.{Goes}
use Rattle.codes.specs.declared.Goes.TheVariants.{Onward, Branches, Jumps, CallsNear, Calls, Returns}
use Rattle.codes.specs.declared.Target.{Target}
use Rattle.codes.specs.declared.Target.TheVariants.{ByReg, Direct, Vector}
use Rattle.codes.specs.declared.Reach.{Reach}
use Rattle.codes.specs.States.{goes_of}
use Rattle.codes.specs.Exact.{Bytes, Decodes, accepted, cut_short, unheld}
use Rattle.codes.proofs.Laws.{Sized, code_sized, bytes_drop}
use Rattle.decoder.proofs.Laws.{exact}
use Rattle.registers.specs.Parts.{pc_of}
use Rattle.site.specs.declared.Site.{Site}
use Rattle.timing.specs.Made.{most_of}
use Rattle.timing.proofs.Few.{most_few}
use Rattle.flow.specs.Targets.{next_of, target_of}
use Rattle.flow.proofs.Signed.{target_even, target_in}
use Rattle.paths.specs.declared.Flow.{Flow}
use Rattle.paths.specs.declared.Flow.TheVariants.{Next, Jump, Either, Call, Ends}
use Rattle.paths.specs.Paths.{IsPlace, Leads, Enters, count_of}
use Rattle.paths.proofs.Laws.{le_or, Listing}
use Rattle.listing.specs.Listing.{branch_flow, jump_flow, call_flow, goes_flow, found_flow, decoded_at, flow_at}

-- what the flow at p keeps to
record Kept (p : ℕ) (f : Result Flow Refusal) : Type 0 where
  ways : (q : ℕ) → Leads f q → IsPlace q
  entries : (t : ℕ) → Enters f t → IsPlace t
  after_call : (q t : ℕ) → Enters f t → Leads f q → p < q
  few : count_of f ≤ 32

-- of what calls nothing
kept_plain : {p : ℕ} (f : Result Flow Refusal) → ((t : ℕ) → Enters f t → ⊥) → ((q : ℕ) → Leads f q → IsPlace q) → count_of f ≤ 32 → Kept p f
kept_plain f x w h = record { ways = w; entries = λ t e. absurd (x t e); after_call = λ q t e. absurd (x t e); few = h }

kept_branch : {p : ℕ} (x y : Bool) (n t s : ℕ) → IsPlace n → IsPlace t → s ≤ 32 → Kept p (Ok (cond x (Jump t s) (cond y (Next n s) (Either n t s))))
kept_branch true y n t s a b h = kept_plain (Ok (Jump t s)) (λ t e. e) (λ q w. rw w b) h
kept_branch false true n t s a b h = kept_plain (Ok (Next n s)) (λ t e. e) (λ q w. rw w a) h
kept_branch false false n t s a b h = kept_plain (Ok (Either n t s)) (λ t e. e) (λ q w. ⊎_elim (λ e. rw e a) (λ e. rw e b) w) h

kept_stop : {p : ℕ} (r : Refusal) → Kept p (Err r)
kept_stop r = kept_plain (Err r) (λ t e. e) (λ q w. absurd w) (omega arith)

aimed : (a : ℕ) → IsPlace (pc_of a)
aimed a = record { even = omega arith; in_range = omega arith }

kept_jump : (p : ℕ) (target : Target) (s : ℕ) → s ≤ 32 → Kept p (jump_flow p target s)
unfolding jump_flow
kept_jump p (ByReg e) s h = kept_stop (NotFollowed p)
kept_jump p (Direct a) s h = kept_plain (Ok (Jump (pc_of a) s)) (λ t e. e) (λ q w. rw w (aimed a)) h
kept_jump p (Vector a) s h = kept_stop (NotFollowed p)

kept_call : {p : ℕ} (n t s : ℕ) → IsPlace n → IsPlace t → p < n → s ≤ 32 → Kept p (Ok (Call n t s))
kept_call n t s a b u h = record { ways = λ q w. rw w a; entries = λ v e. rw e b; after_call = λ q v e w. rw w u; few = h }

kept_called : (p n : ℕ) (target : Target) (s : ℕ) → IsPlace n → p < n → s ≤ 32 → Kept p (call_flow p n target s)
unfolding call_flow
kept_called p n (ByReg e) s z u h = kept_stop (NotFollowed p)
kept_called p n (Direct a) s z u h = kept_call n (pc_of a) s z (aimed a) u h
kept_called p n (Vector a) s z u h = kept_stop (NotFollowed p)

reached : (n : ℕ) (reach : Reach) → IsPlace (target_of n reach)
reached n reach = record { even = target_even n reach; in_range = target_in n reach }

kept_goes : (p n s : ℕ) → IsPlace n → p < n → s ≤ 32 → (g : Goes) → Kept p (goes_flow p n s g)
unfolding goes_flow branch_flow
kept_goes p n s z u h Onward = kept_plain (Ok (Next n s)) (λ t e. e) (λ q w. rw w z) h
kept_goes p n s z u h (Branches c reach) = kept_branch (eqb c 0) (eqb c 1) n (target_of n reach) s z (reached n reach) h
kept_goes p n s z u h (Jumps target) = kept_jump p target s h
kept_goes p n s z u h (CallsNear reach) = kept_call n (target_of n reach) s z (reached n reach) u h
kept_goes p n s z u h (Calls target) = kept_called p n target s z u h
kept_goes p n s z u h Returns = kept_plain (Ok (Ends s)) (λ t e. e) (λ q w. absurd w) h

-- the length of what is decoded is even, and at most 10
abbrev SizedLength : Result (Instruction × ℕ) Refusal → Type 0
SizedLength (Ok (i, n)) = Sized n
SizedLength (Err r) = Unit {0}

kept_found : (k : Site) (p : ℕ) → IsPlace p → p < 524288 → (d : Result (Instruction × ℕ) Refusal) → SizedLength d → Kept p (found_flow k p d)
unfolding found_flow
kept_found k p z l (Ok (i, n)) e = kept_goes p (next_of p n) (most_of k i) (record { even = omega (arith, z.even, e.even); in_range = omega arith }) (omega (arith, e.least, e.most)) (most_few k i) (goes_of i)
kept_found k p z l (Err r) e = kept_stop r

sized_of : {place : ℕ} {s : List ℕ} {d : Result (Instruction × ℕ) Refusal} → Decodes place s d → SizedLength d
sized_of (accepted {i = i} v e b) = rw e (code_sized i v)
sized_of (cut_short i v k) = tt
sized_of (unheld f) = tt

-- what is decoded at a place is what the code list says of the bytes from there
pub decoded_exact : (rom : List ℕ) (p : ℕ) → Bytes rom → Decodes p (drop p rom) (decoded_at rom p)
unfolding decoded_at
decoded_exact rom p b = exact p (drop p rom) (bytes_drop p rom b)

module _ (k : Site) (rom : List ℕ) (b : Bytes rom) (even : length rom % 2 ≡ 0) (small : length rom ≤ 524288) where
  kept_at : (p : ℕ) → IsPlace p → Kept p (flow_at k rom p)
  unfolding flow_at
  kept_at p z = ⊎_elim (λ h. rw (le-leb (length rom) p h) (kept_stop (FetchOutside p))) (λ h. rw (lt-leb (length rom) p h) (kept_found k p z (omega arith) (decoded_at rom p) (sized_of (decoded_exact rom p b)))) (le_or (length rom) p)

  pub listing : Listing (flow_at k rom) (length rom)
  unfolding flow_at
  listing = record {
    small = small;
    even_length = even;
    outside = λ p h. rw (le-leb (length rom) p h);
    ways = λ p q z w. (kept_at p z).ways q w;
    entries = λ p t z e. (kept_at p z).entries t e;
    after_call = λ p q t z e w. (kept_at p z).after_call q t e w;
    few = λ p z. (kept_at p z).few;
  }
