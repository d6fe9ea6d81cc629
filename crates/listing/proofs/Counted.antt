-- The flow of what is found at a place, by what the figure counts for its parts. Assumes nothing.
use Rattle.std.specs.Prelude.{Ok, Result}
use mathlib.Core.Path.{◌≡◌, refl, sym, ap, ◌∙◌}
use mathlib.Core.List.{[]}
use Prim.Native.Nat.{ℕ, ◌+◌, ◌*◌}
use native.Mathlib.Omega.{arith}
use Rattle.arith.specs.declared.Width.{Width}
use Rattle.arith.specs.declared.Width.TheVariants.{Long}
use Rattle.codes.specs.States.{states_of, goes_of}
use Rattle.codes.specs.Cycles.{touches_of, spot_fetches}
use Rattle.codes.specs.declared.Goes.TheVariants.{Onward}
use Rattle.codes.specs.declared.Dir.{Dir}
use Rattle.codes.specs.declared.Take.{Take}
use Rattle.codes.specs.declared.Give.{Give}
use Rattle.codes.specs.declared.Index.{Index}
use Rattle.codes.specs.declared.Spot.{Spot}
use Rattle.codes.specs.declared.Place.{Place}
use Rattle.codes.specs.declared.Reach.{Reach}
use Rattle.codes.specs.declared.Reach.TheVariants.{Near, Far}
use Rattle.codes.specs.declared.Target.{Target}
use Rattle.codes.specs.declared.Target.TheVariants.{ByReg, Direct, Vector}
use Rattle.codes.specs.declared.Instruction.{Instruction}
use Rattle.codes.specs.declared.Instruction.TheVariants.{Takes, Gives, Move, Bcc, Jmp, Bsr, Jsr}
use Rattle.flow.specs.Targets.{next_of, target_of}
use Rattle.site.specs.declared.Site.{Site}
use Rattle.timing.specs.Made.{base_of, dearest, most_at, most_of}
use Rattle.timing.specs.MirrorParts.{move_base, spot_most}
use Rattle.timing.proofs.Counts.{none, move, read, written}
use Rattle.refusal.specs.declared.Refusal.{Refusal}
use Rattle.paths.specs.declared.Flow.{Flow}
use Rattle.paths.specs.declared.Flow.TheVariants.{Next, Call}
use Rattle.registers.specs.Parts.{pc_of}
use Rattle.listing.specs.Listing.{branch_flow, jump_flow, call_flow, goes_flow, found_flow}
use Rattle.listing.specs.MirrorGlance.{reach_states}

module _ (k : Site) where
  branch_states : (c : ℕ) (reach : Reach) → reach_states reach ≡ most_of k (Bcc c reach)
  unfolding most_of base_of
  branch_states c (Near d) = refl
  branch_states c (Far d) = refl

  near_states : (reach : Reach) → reach_states reach + dearest k Long ≡ most_of k (Bsr reach)
  unfolding most_of base_of most_at
  near_states (Near d) = omega arith
  near_states (Far d) = omega arith

  called : (p n : ℕ) (to : Target) → call_flow p n to (6 + dearest k Long) ≡ call_flow p n to (most_of k (Jsr to))
  unfolding most_of base_of most_at call_flow
  called p n (ByReg e) = refl
  called p n (Direct a) = ap (λ (s : ℕ). Ok (Call n (pc_of a) s)) (omega arith)
  called p n (Vector a) = refl

  -- an instruction of n bytes at p that goes on
  module _ (p n : ℕ) {next s : ℕ} {i : Instruction} {r : Result Flow Refusal} where
    goes_on : {j : Instruction} → i ≡ j → goes_of j ≡ Onward → s ≡ most_of k j → next ≡ next_of p n → r ≡ Ok (Next next s) → r ≡ found_flow k p (Ok (i, n))
    unfolding found_flow goes_flow
    goes_on a b f e g = g ∙ rw (a, b, e, f)

    pub goes_none : {j : Instruction} → i ≡ j → goes_of j ≡ Onward → touches_of j ≡ [] → s ≡ states_of j → next ≡ next_of p n → r ≡ Ok (Next next s)
        → r ≡ found_flow k p (Ok (i, n))
    goes_none a b t f = goes_on a b (f ∙ sym (none k _ t))

    pub goes_move : {dir : Dir} {w : Width} {place : Place} {d : ℕ} → i ≡ Move dir w place d → s ≡ move_base w place + most_at k w place → next ≡ next_of p n
        → r ≡ Ok (Next next s) → r ≡ found_flow k p (Ok (i, n))
    goes_move a f = goes_on a refl (f ∙ sym (move k _ _ _ _))

    pub goes_read : {take : Take} {index : Index} {spot : Spot} → i ≡ Takes take index spot → s ≡ 2 * spot_fetches spot + spot_most k spot → next ≡ next_of p n
        → r ≡ Ok (Next next s) → r ≡ found_flow k p (Ok (i, n))
    goes_read a f = goes_on a refl (f ∙ sym (read k _ _ _))

    pub goes_written : {give : Give} {index : Index} {spot : Spot} → i ≡ Gives give index spot → s ≡ 2 * spot_fetches spot + spot_most k spot + spot_most k spot
        → next ≡ next_of p n → r ≡ Ok (Next next s) → r ≡ found_flow k p (Ok (i, n))
    goes_written a f = goes_on a refl (f ∙ sym (written k _ _ _))

  -- a jump that is followed takes 6
  jump : (p : ℕ) (to : Target) → jump_flow p to 6 ≡ jump_flow p to (most_of k (Jmp to))
  unfolding most_of base_of jump_flow
  jump p (ByReg e) = refl
  jump p (Direct a) = refl
  jump p (Vector a) = refl

  pub goes_jump : (p n : ℕ) {i : Instruction} {to : Target} {r : Result Flow Refusal} → i ≡ Jmp to → r ≡ jump_flow p to 6 → r ≡ found_flow k p (Ok (i, n))
  unfolding found_flow goes_flow
  goes_jump p n {to = to} a g = g ∙ jump p to ∙ rw a

  module _ (p n : ℕ) {next : ℕ} {i : Instruction} where
    pub goes_branch : {c : ℕ} {reach : Reach} {t s : ℕ} {f : Flow} → i ≡ Bcc c reach → next ≡ next_of p n → t ≡ target_of next reach → s ≡ reach_states reach → f ≡ branch_flow c next t s
        → Ok f ≡ found_flow k p (Ok (i, n))
    unfolding found_flow goes_flow
    goes_branch {c} {reach} a e b d g = ap Ok g ∙ rw (b, d, a, e, branch_states c reach)

    pub goes_near : {reach : Reach} {t s x : ℕ} → i ≡ Bsr reach → next ≡ next_of p n → t ≡ target_of next reach → s ≡ reach_states reach → x ≡ dearest k Long
        → Ok (Call next t (s + x)) ≡ found_flow k p (Ok (i, n))
    unfolding found_flow goes_flow
    goes_near {reach} a e b d g = rw (b, d, g, a, e, near_states reach)

    pub goes_call : {to : Target} {x : ℕ} {r : Result Flow Refusal} → i ≡ Jsr to → next ≡ next_of p n → x ≡ dearest k Long → r ≡ call_flow p next to (6 + x)
        → r ≡ found_flow k p (Ok (i, n))
    unfolding found_flow goes_flow
    goes_call {to} a e b g = g ∙ rw (b, called p next to, a, e)
