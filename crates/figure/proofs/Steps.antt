-- A step of the processor goes where the paths of its listing go, by the few cases of where PC can go; and it has one answer. Assumes nothing.
use Rattle.std.specs.Prelude.{Result, Ok, Err}
use mathlib.Core.Path.{◌≡◌, refl, sym, subst, ◌∙◌, ap}
use mathlib.Core.Logic.{◌⊎◌, inl, inr}
use mathlib.Core.Bool.{Bool, true, false, cond, xor}
use mathlib.Core.List.{List}
use Prim.Native.Nat.{ℕ, ◌*◌, ◌/◌, ◌%◌, ◌^◌, ◌≤◌, ◌<◌}
use native.Mathlib.Nat.{le_refl}
use native.Mathlib.Omega.{arith}
use lib.Dec.{eqb}
use lib.ListN.{length, drop}
use borrow.Author.Tests.{eq-eqb, eqb-true, lt-ltb, ltb-true, ltb-false, le-leb, lt-leb}
use Rattle.refusal.specs.declared.Refusal.{Refusal}
use Rattle.refusal.specs.declared.Refusal.TheVariants.{FetchOutside, NotFollowed}
use Rattle.codes.specs.States.{goes_of}
use Rattle.codes.specs.Exact.{Bytes}
use Rattle.codes.specs.declared.Instruction.{Instruction}
use Rattle.codes.specs.declared.Goes.{Goes}
use Rattle.codes.specs.declared.Goes.TheVariants.{Onward, Branches, Jumps, CallsNear, Calls, Returns}
use Rattle.codes.specs.declared.Target.TheVariants.{ByReg, Direct, Vector}
use Rattle.codes.proofs.Laws.{bytes_drop}
use Rattle.decoder.proofs.Laws.{code_read}
use Rattle.flow.specs.Targets.{next_of, target_of}
use Rattle.flow.proofs.Signed.{target_even, target_in}
use Rattle.registers.specs.declared.Condition.{Condition}
use Rattle.registers.specs.declared.Registers.{Registers}
use Rattle.registers.specs.Parts.{with_pc}
use Rattle.site.specs.declared.Site.{Site}
use Rattle.timing.specs.Made.{most_of}
use Rattle.timing.proofs.Printed.{most_printed}
use Rattle.memory.specs.Board.{good_board}
use Rattle.memory.specs.declared.Board.{Board}
use Rattle.moves.specs.Made.{states_at}
use Rattle.moves.proofs.States.{never_more, printed}
use Rattle.step.specs.Follow.{even_condition, holds_of, aim_of, follow_of}
use Rattle.step.specs.Step.{After, after, answered, good_pc, fetch_of, step_of}
use Rattle.step.proofs.Laws as Laws
use Rattle.step.proofs.Laws.{Comes, outside, no_code, completes, comes, step_is}
use Rattle.paths.specs.declared.Flow.TheVariants.{Next, Jump, Either}
use Rattle.paths.specs.Paths.{IsPlace, Leads, Enters, count_of}
use Rattle.paths.proofs.Kept.{Stepped, back_home, onward, entered, by_data}
use Rattle.listing.specs.Listing.{branch_flow, jump_flow, call_flow, goes_flow, found_flow, decoded_at, flow_at}
use Rattle.step.specs.Processor.{State, Calling, processor}
use Rattle.figure.specs.Bound.{Carrying}
use Rattle.figure.proofs.Takes.{takes}

-- an even address below 2^24 is what PC holds when it is set to it
place_stays : (p : ℕ) → p % 2 ≡ 0 → p < 16777216 → p % 2 ^ 24 / 2 * 2 ≡ p
place_stays p e l = omega arith

-- BRA holds and BRN doesn't
always : (f : Condition) → holds_of 0 f ≡ true
unfolding holds_of even_condition xor
always f = refl

-- what is found is one instruction, of one length
pub same_found : {i j : Instruction} {n m : ℕ} → ◌≡◌ {A = Result (Instruction × ℕ) Refusal} (Ok (i, n)) (Ok (j, m)) → (i ≡ j) × (n ≡ m)
same_found {i} {j} {n} {m} e =
    let q : ◌≡◌ {A = Instruction × ℕ} (i, n) (j, m) = cc in
    (ap (λ (x : Instruction × ℕ). x.0) q, ap (λ (x : Instruction × ℕ). x.1) q)

never : (f : Condition) → holds_of 1 f ≡ false
unfolding holds_of even_condition xor
never f = refl

-- a branch goes to the next instruction n or to its target t, BRA and BRN to one of them
module _ (f : Condition) (c n t k p : ℕ) (n-stays : n % 2 ^ 24 / 2 * 2 ≡ n) (t-stays : t % 2 ^ 24 / 2 * 2 ≡ t) where
  by_condition : (h : Bool) → p ≡ cond h t n → (p % 2 ^ 24 / 2 * 2 ≡ n) ⊎ (p % 2 ^ 24 / 2 * 2 ≡ t)
  by_condition true e = inr (rw e t-stays)
  by_condition false e = inl (rw e n-stays)

  by_digit : (x y : Bool) → eqb c 0 ≡ x → eqb c 1 ≡ y → p ≡ cond (holds_of c f) t n → Leads (Ok (cond x (Jump t k) (cond y (Next n k) (Either n t k)))) (p % 2 ^ 24 / 2 * 2)
  by_digit true y ex ey e = let z : c ≡ 0 = eqb-true c 0 ex in let h : p ≡ t = e ∙ rw (z, always f) in rw h t-stays
  by_digit false true ex ey e = let z : c ≡ 1 = eqb-true c 1 ey in let h : p ≡ n = e ∙ rw (z, never f) in rw h n-stays
  by_digit false false ex ey e = by_condition (holds_of c f) e

  branch_leads : p ≡ cond (holds_of c f) t n → Leads (Ok (branch_flow c n t k)) (p % 2 ^ 24 / 2 * 2)
  unfolding branch_flow
  branch_leads e = by_digit _ _ refl refl e

branch_count : (n t k : ℕ) (x y : Bool) → k ≤ count_of (Ok (cond x (Jump t k) (cond y (Next n k) (Either n t k))))
branch_count n t k true y = le_refl k
branch_count n t k false true = le_refl k
branch_count n t k false false = le_refl k

branch_plain : (n t k u : ℕ) (x y : Bool) → Enters (Ok (cond x (Jump t k) (cond y (Next n k) (Either n t k)))) u → ⊥
branch_plain n t k u true y e = e
branch_plain n t k u false true e = e
branch_plain n t k u false false e = e

-- a step on a board takes no more than what the site's figure counts
within : (k : Site) (b : Board) → Carrying k b → (r : Registers) (i : Instruction) → states_at b.site r i ≤ most_of k i
within k b (inl e) r i = subst (λ (x : Site). states_at b.site r i ≤ most_of x i) e (never_more b.site r i)
within k b (inr (told, carried)) r i = omega (arith, printed b.site r carried i, most_printed k told i)

module _ (k : Site) (b : Board) (on : Carrying k b) (rom : List ℕ) (bytes : Bytes rom) where
  -- working memory keeps its length, so the board stays right, and PC stays a place
  abbrev pub Kept : State → Type 0
  Kept s = (good_board b (length rom) (length s.mem) ≡ true) × IsPlace s.regs.pc

  module _ (s : State) where
    abbrev r : Registers
    r = s.regs

    abbrev pc : ℕ
    pc = s.regs.pc

    -- where the instruction at PC goes, if PC goes where the listing says
    module _ (i : Instruction) (n : ℕ) (inside : pc < length rom) (d : decoded_at rom pc ≡ Ok (i, n)) (z : IsPlace pc) where
      next : ℕ
      next = next_of pc n

      flow_is : flow_at k rom pc ≡ goes_flow pc (next_of pc n) (most_of k i) (goes_of i)
      unfolding flow_at found_flow
      flow_is = rw (lt-leb (length rom) pc inside, d)

      next_even : next_of pc n % 2 ≡ 0
      unfolding decoded_at
      next_even = omega (arith, z.even, (code_read pc (drop pc rom) i n (bytes_drop pc rom bytes) d).sized.even)

      leads : (g : Goes) → ((f : Refusal) → goes_flow pc (next_of pc n) (most_of k i) g ≡ Err f → ⊥) → (Calling g → ⊥) → (g ≡ Returns → ⊥) → (p : ℕ)
          → follow_of r b rom s.mem g (next_of pc n) ≡ Ok p → Leads (goes_flow pc (next_of pc n) (most_of k i) g) (p % 2 ^ 24 / 2 * 2)
      unfolding goes_flow follow_of jump_flow aim_of
      leads Onward free calm out p e = let h : p ≡ next_of pc n = cc in rw h (place_stays (next_of pc n) next_even (omega arith))
      leads (Branches c reach) free calm out p e =
          let h : p ≡ cond (holds_of c r.condition) (target_of (next_of pc n) reach) (next_of pc n) = cc in
          branch_leads r.condition c (next_of pc n) (target_of (next_of pc n) reach) (most_of k i) p (place_stays (next_of pc n) next_even (omega arith))
          (place_stays (target_of (next_of pc n) reach) (target_even (next_of pc n) reach) (target_in (next_of pc n) reach)) h
      leads (Jumps (ByReg x)) free calm out p e = absurd (free (NotFollowed pc) refl)
      leads (Jumps (Direct a)) free calm out p e = let h : p ≡ a = cc in rw h
      leads (Jumps (Vector a)) free calm out p e = absurd (free (NotFollowed pc) refl)
      leads (CallsNear reach) free calm out p e = absurd (calm tt)
      leads (Calls t) free calm out p e = absurd (calm tt)
      leads Returns free calm out p e = absurd (out refl)

      -- a call that is followed enters its target, and leads where it pushes
      enters : (g : Goes) → ((f : Refusal) → goes_flow pc (next_of pc n) (most_of k i) g ≡ Err f → ⊥) → Calling g → (p : ℕ)
          → follow_of r b rom s.mem g (next_of pc n) ≡ Ok p → Enters (goes_flow pc (next_of pc n) (most_of k i) g) (p % 2 ^ 24 / 2 * 2) × Leads (goes_flow pc (next_of pc n) (most_of k i) g) (next_of pc n)
      unfolding goes_flow follow_of call_flow aim_of
      enters Onward free calls p e = absurd calls
      enters (Branches c reach) free calls p e = absurd calls
      enters (Jumps t) free calls p e = absurd calls
      enters (CallsNear reach) free calls p e = let h : p ≡ target_of (next_of pc n) reach = cc in (rw h (place_stays (target_of (next_of pc n) reach) (target_even (next_of pc n) reach) (target_in (next_of pc n) reach)), refl)
      enters (Calls (ByReg x)) free calls p e = absurd (free (NotFollowed pc) refl)
      enters (Calls (Direct a)) free calls p e = let h : p ≡ a = cc in (rw h, refl)
      enters (Calls (Vector a)) free calls p e = absurd (free (NotFollowed pc) refl)
      enters Returns free calls p e = absurd calls

      -- what does not call enters nothing
      plain : (g : Goes) → (Calling g → ⊥) → (t : ℕ) → Enters (goes_flow pc (next_of pc n) (most_of k i) g) t → ⊥
      unfolding goes_flow branch_flow jump_flow
      plain Onward calm t e = e
      plain (Branches c reach) calm t e = branch_plain (next_of pc n) (target_of (next_of pc n) reach) (most_of k i) t (eqb c 0) (eqb c 1) e
      plain (Jumps (ByReg x)) calm t e = e
      plain (Jumps (Direct a)) calm t e = e
      plain (Jumps (Vector a)) calm t e = e
      plain (CallsNear reach) calm t e = calm tt
      plain (Calls target) calm t e = calm tt
      plain Returns calm t e = e

      -- RTS stands at PC exactly if the instruction there returns
      returns_not : (goes_of i ≡ Returns → ⊥) → (processor b rom).AtReturn s → ⊥
      unfolding decoded_at
      returns_not out (j, m, e, g) = let h : i ≡ j = (same_found (sym d ∙ e)).0 in out (rw h g)

      -- a call does exactly if it calls
      pushes_not : (Calling (goes_of i) → ⊥) → (a : ℕ) → (processor b rom).Pushes s a → ⊥
      unfolding decoded_at
      pushes_not calm a (j, m, e, c, h) = let z : j ≡ i = (same_found (sym e ∙ d)).0 in calm (subst (λ (x : Instruction). Calling (goes_of x)) z c)

      counts : (g : Goes) → ((f : Refusal) → goes_flow pc (next_of pc n) (most_of k i) g ≡ Err f → ⊥) → most_of k i ≤ count_of (goes_flow pc (next_of pc n) (most_of k i) g)
      unfolding goes_flow jump_flow call_flow branch_flow
      counts Onward free = le_refl (most_of k i)
      counts (Branches c reach) free = branch_count (next_of pc n) (target_of (next_of pc n) reach) (most_of k i) (eqb c 0) (eqb c 1)
      counts (Jumps (ByReg x)) free = absurd (free (NotFollowed pc) refl)
      counts (Jumps (Direct a)) free = le_refl (most_of k i)
      counts (Jumps (Vector a)) free = absurd (free (NotFollowed pc) refl)
      counts (CallsNear reach) free = le_refl (most_of k i)
      counts (Calls (ByReg x)) free = absurd (free (NotFollowed pc) refl)
      counts (Calls (Direct a)) free = le_refl (most_of k i)
      counts (Calls (Vector a)) free = absurd (free (NotFollowed pc) refl)
      counts Returns free = le_refl (most_of k i)

      module _ (p : ℕ) (q : Registers) (m : List ℕ) (same : length m ≡ length s.mem) (kept : Kept s)
          (free : (f : Refusal) → flow_at k rom pc ≡ Err f → ⊥) (step : step_of b rom s.mem r ≡ after (answered (with_pc q p) (states_at b.site r i) (Ok tt)) m) where
        -- the listing is the instruction's
        here : (g : Goes) → goes_of i ≡ g → flow_at k rom pc ≡ goes_flow pc (next_of pc n) (most_of k i) g
        here g h = flow_is ∙ ap (λ (x : Goes). goes_flow pc (next_of pc n) (most_of k i) x) h

        -- what is kept after it
        after_kept : Kept (record { regs = with_pc q p; mem = m })
        after_kept = (rw same kept.0, record { even = omega arith; in_range = omega arith })

        free_at : (g : Goes) → goes_of i ≡ g → (f : Refusal) → goes_flow pc (next_of pc n) (most_of k i) g ≡ Err f → ⊥
        free_at g h f x = free f (here g h ∙ x)

        goes_on : (g : Goes) → goes_of i ≡ g → (Calling g → ⊥) → (g ≡ Returns → ⊥) → follow_of r b rom s.mem g (next_of pc n) ≡ Ok p → Stepped (processor b rom) Kept (flow_at k rom pc) s
        goes_on g h calm out e =
            rw (here g h)
            (onward {t = record { regs = with_pc q p; mem = m }} (returns_not (λ x. out (sym h ∙ x))) (pushes_not (λ x. calm (rw h at x))) step after_kept (plain g calm) (leads g (free_at g h) calm out p e) (takes b.site r i)
            (omega (arith, within k b on r i, counts g (free_at g h))))

        called : (g : Goes) → goes_of i ≡ g → Calling g → (g ≡ Returns → ⊥) → follow_of r b rom s.mem g (next_of pc n) ≡ Ok p → Stepped (processor b rom) Kept (flow_at k rom pc) s
        unfolding decoded_at
        called g h calls out e =
            let w = enters g (free_at g h) calls p e in
            rw (here g h)
            (entered {t = record { regs = with_pc q p; mem = m }} {k = next_of pc n} (returns_not (λ x. out (sym h ∙ x))) (i, n, d, rw h calls, refl) step after_kept w.1 w.0 (takes b.site r i)
            (omega (arith, within k b on r i, counts g (free_at g h))))

        completed : (g : Goes) → goes_of i ≡ g → follow_of r b rom s.mem g (next_of pc n) ≡ Ok p → Stepped (processor b rom) Kept (flow_at k rom pc) s
        unfolding goes_flow decoded_at
        completed Onward h e = goes_on Onward h (λ x. x) (λ x. let z : ◌≡◌ {A = ℕ} 0 1 = cc in omega arith) e
        completed (Branches c reach) h e = goes_on (Branches c reach) h (λ x. x) (λ x. let z : ◌≡◌ {A = ℕ} 0 1 = cc in omega arith) e
        completed (Jumps t) h e = goes_on (Jumps t) h (λ x. x) (λ x. let z : ◌≡◌ {A = ℕ} 0 1 = cc in omega arith) e
        completed (CallsNear reach) h e = called (CallsNear reach) h tt (λ x. let z : ◌≡◌ {A = ℕ} 0 1 = cc in omega arith) e
        completed (Calls t) h e = called (Calls t) h tt (λ x. let z : ◌≡◌ {A = ℕ} 0 1 = cc in omega arith) e
        completed Returns h e = back_home {t = record { regs = with_pc q p; mem = m }} (i, n, d, h) (pushes_not (λ x. rw h at x)) step after_kept (here Returns h) (takes b.site r i) (within k b on r i)

    module _ (kept : Kept s) (free : (f : Refusal) → flow_at k rom pc ≡ Err f → ⊥) where
      come : (a : After) → Comes r b rom s.mem a → step_of b rom s.mem r ≡ a → Stepped (processor b rom) Kept (flow_at k rom pc) s
      unfolding flow_at found_flow decoded_at
      come a (outside l) e = absurd (free (FetchOutside pc) (rw (le-leb (length rom) pc (ltb-false pc (length rom) l))))
      come a (no_code f l d) e = absurd (free f (rw (lt-leb (length rom) pc (ltb-true pc (length rom) l), d)))
      come a (Laws.by_data i n f l d k) e = by_data e k
      come a (completes i n p q m l d g e' k h) e = completed i n (ltb-true pc (length rom) l) d kept.1 p q m k kept free e (goes_of i) refl g

      pub goes_where : Stepped (processor b rom) Kept (flow_at k rom pc) s
      goes_where =
          let x : good_pc pc ≡ true = rw (eq-eqb (pc % 2) 0 kept.1.even, lt-ltb pc (2 ^ 24) kept.1.in_range) in
          come (fetch_of r b rom s.mem) (comes r b rom s.mem) (step_is r b rom s.mem kept.0 x)
