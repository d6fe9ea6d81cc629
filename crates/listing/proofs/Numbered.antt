-- A forbidden place's refusal names that place, and has the number 2, 3, 4, 9, 10, 15 or 16.
-- Assumes nothing.
use Rattle.std.specs.Prelude.{Result, Ok, Err}
use mathlib.Core.Path.{◌≡◌, refl, subst}
use mathlib.Core.Logic.{◌⊎◌, inl, inr, ⊎_elim}
use mathlib.Core.List.{List}
use mathlib.Core.Bool.{Bool, true, false, cond}
use Prim.Native.Nat.{ℕ, ◌<◌}
use lib.Dec.{eqb}
use lib.ListN.{length, drop}
use borrow.Author.Tests.{le-leb, lt-leb}
use Rattle.codes.specs.declared.Instruction.{Instruction}
use Rattle.refusal.specs.declared.Refusal.{Refusal}
use Rattle.refusal.specs.declared.Refusal.TheVariants.{FetchOutside, CutShort, NotFollowed, NotUpward, TooDeep}
use Rattle.refusal.specs.Refusals.{number_of, place_of}
use Rattle.left.specs.Left.{group_in, left_out}
use Rattle.left.specs.Unheld.{unheld_of}
use Rattle.left.proofs.Named.{unheld_place, unheld_number}
use Rattle.codes.specs.declared.Goes.{Goes}
use Rattle.codes.specs.declared.Goes.TheVariants.{Onward, Branches, Jumps, CallsNear, Calls, Returns}
use Rattle.codes.specs.declared.Target.{Target}
use Rattle.codes.specs.declared.Target.TheVariants.{ByReg, Direct, Vector}
use Rattle.codes.specs.States.{goes_of}
use Rattle.decoder.proofs.Laws.{refused_at}
use Rattle.site.specs.declared.Site.{Site}
use Rattle.timing.specs.Made.{most_of}
use Rattle.flow.specs.Targets.{next_of, target_of}
use Rattle.paths.specs.declared.Flow.{Flow}
use Rattle.paths.specs.declared.Flow.TheVariants.{Next, Jump, Either, Call, Ends}
use Rattle.paths.specs.Paths.{Forbidden, stop, back, deep}
use Rattle.paths.proofs.Laws.{le_or}
use Rattle.listing.specs.Listing.{branch_flow, jump_flow, call_flow, goes_flow, found_flow, decoded_at, flow_at}

pub record Named (p : ℕ) (r : Refusal) : Type 0 where
  pub place : place_of r ≡ p
  pub number : (number_of r ≡ 2) ⊎ ((number_of r ≡ 3) ⊎ ((number_of r ≡ 4) ⊎ ((number_of r ≡ 9) ⊎ ((number_of r ≡ 10) ⊎ ((number_of r ≡ 15) ⊎ (number_of r ≡ 16))))))

outside : (p : ℕ) → Named p (FetchOutside p)
outside p = record { place = refl; number = inl refl }

unheld : (p g : ℕ) → p < 16777216 → Named p (unheld_of p g)
unheld p g h = record { place = unheld_place p g h; number = ⊎_elim (λ e. inr (inl e)) (λ e. inr (inr (inr (inr (inr (inl e)))))) (unheld_number p g) }

short : (p : ℕ) → Named p (CutShort p)
short p = record { place = refl; number = inr (inr (inl refl)) }

not_followed : (p : ℕ) → Named p (NotFollowed p)
not_followed p = record { place = refl; number = inr (inr (inr (inl refl))) }

not_upward : (p : ℕ) → Named p (NotUpward p)
not_upward p = record { place = refl; number = inr (inr (inr (inr (inl refl)))) }

too_deep : (p : ℕ) → Named p (TooDeep p)
too_deep p = record { place = refl; number = inr (inr (inr (inr (inr (inr refl))))) }

-- what an instruction's flow stops by
abbrev Says : ℕ → Result Flow Refusal → Type 0
Says p (Ok (Next n s)) = Unit {0}
Says p (Ok (Jump t s)) = Unit {0}
Says p (Ok (Either n t s)) = Unit {0}
Says p (Ok (Call n t s)) = Unit {0}
Says p (Ok (Ends s)) = Unit {0}
Says p (Err r) = Named p r

says_branch : (x y : Bool) (p n t s : ℕ) → Says p (Ok (cond x (Jump t s) (cond y (Next n s) (Either n t s))))
says_branch true y p n t s = tt
says_branch false true p n t s = tt
says_branch false false p n t s = tt

says_jump : (p : ℕ) (target : Target) (s : ℕ) → Says p (jump_flow p target s)
unfolding jump_flow
says_jump p (ByReg e) s = not_followed p
says_jump p (Direct a) s = tt
says_jump p (Vector a) s = not_followed p

says_call : (p n : ℕ) (target : Target) (s : ℕ) → Says p (call_flow p n target s)
unfolding call_flow
says_call p n (ByReg e) s = not_followed p
says_call p n (Direct a) s = tt
says_call p n (Vector a) s = not_followed p

says_goes : (p n s : ℕ) (g : Goes) → Says p (goes_flow p n s g)
unfolding goes_flow branch_flow
says_goes p n s Onward = tt
says_goes p n s (Branches c reach) = says_branch (eqb c 0) (eqb c 1) p n (target_of n reach) s
says_goes p n s (Jumps target) = says_jump p target s
says_goes p n s (CallsNear reach) = tt
says_goes p n s (Calls target) = says_call p n target s
says_goes p n s Returns = tt

says_found : (k : Site) (p g : ℕ) → p < 16777216 → (d : Result (Instruction × ℕ) Refusal) → ((r : Refusal) → d ≡ Err r → (r ≡ CutShort p) ⊎ (r ≡ unheld_of p g)) → Says p (found_flow k p d)
unfolding found_flow
says_found k p g l (Ok (i, n)) h = says_goes p (next_of p n) (most_of k i) (goes_of i)
says_found k p g l (Err r) h = ⊎_elim (λ e. rw e (short p)) (λ e. rw e (unheld p g l)) (h r refl)

refused_decoded : (rom : List ℕ) (p : ℕ) (r : Refusal) → decoded_at rom p ≡ Err r → (r ≡ CutShort p) ⊎ (r ≡ unheld_of p (group_in left_out (drop p rom)))
unfolding decoded_at
refused_decoded rom p r e = refused_at p (drop p rom) r e

says_at : (k : Site) (rom : List ℕ) (p : ℕ) → p < 16777216 → Says p (flow_at k rom p)
unfolding flow_at
says_at k rom p l = ⊎_elim (λ h. rw (le-leb (length rom) p h) (outside p)) (λ h. rw (lt-leb (length rom) p h) (says_found k p _ l (decoded_at rom p) (refused_decoded rom p))) (le_or (length rom) p)

pub forbidden_named : (k : Site) (rom : List ℕ) {d p : ℕ} {r : Refusal} → p < 16777216 → Forbidden (flow_at k rom) d p r → Named p r
forbidden_named k rom {p = p} l (stop e) = subst (λ (f : Result Flow Refusal). Says p f) e (says_at k rom p l)
forbidden_named k rom {p = p} l (back w h) = not_upward p
forbidden_named k rom {p = p} l (deep t e) = too_deep p
