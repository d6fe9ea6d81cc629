-- Where a figure is answered, the runs of any machine whose steps go where the paths of the listing go keep to it.
-- Assumes nothing.
use Rattle.std.specs.Prelude.{Result, Ok, Err}
use mathlib.Core.Path.{◌≡◌, refl}
use mathlib.Core.List.{List, []}
use Prim.Native.Nat.{ℕ}
use native.Mathlib.Omega.{arith}
use lib.ListN.{length}
use Rattle.refusal.specs.declared.Refusal.{Refusal}
use Rattle.codes.specs.Exact.{Bytes}
use Rattle.site.specs.declared.Site.{Site}
use Rattle.paths.specs.declared.Flow.{Flow}
use Rattle.paths.specs.Paths.{IsFigure}
use Rattle.machine.specs.Machine.{Machine}
use Rattle.machine.specs.Keeping.{keeps, keeping}
use Rattle.paths.specs.Runs.{Bounded}
use Rattle.paths.proofs.Once.{OneStep}
use Rattle.paths.proofs.Kept.{Stepped, bounded}
use Rattle.listing.specs.Listing.{flow_at}
use Rattle.figure.specs.Answer.{asked_of, Told, longest, too_long, forbids, InOrder, Figured}
use Rattle.figure.proofs.Answered.{Good, fit_good, good_listing}

-- a figure is answered only where the input is fit
told_of : (x : Result (Unit {0}) Refusal) (flow : ℕ → Result Flow Refusal) (len entry : ℕ) (t : List ℕ) (r : Result ℕ Refusal) (a : List ℕ) (n : ℕ) → r ≡ Ok n → InOrder x flow len entry t r a
    → (x ≡ Ok tt) × Told flow entry r
told_of (Err f) flow len entry t r a n e p = absurd (let q : ◌≡◌ {A = ℕ} 0 1 = cc (e, p.0) in omega arith)
told_of (Ok tt) flow len entry t r a n e p = (refl, p.0)

told_longest : {flow : ℕ → Result Flow Refusal} {entry : ℕ} {r : Result ℕ Refusal} (n : ℕ) → r ≡ Ok n → Told flow entry r → IsFigure flow entry n
told_longest n e (longest {n = m} c) = let i : m ≡ n = cc in rw i at c
told_longest n e (too_long v) = absurd (let q : ◌≡◌ {A = ℕ} 0 1 = cc in omega arith)
told_longest n e (forbids w b) = absurd (let q : ◌≡◌ {A = ℕ} 0 1 = cc in omega arith)

module _ (k : Site) (rom : List ℕ) (bytes : Bytes rom) (M : Machine) (O : OneStep M) (Kept : M.State → Type 0)
    (step : (s : M.State) → Kept s → ((r : Refusal) → flow_at k rom (M.pc s) ≡ Err r → ⊥) → Stepped M Kept (flow_at k rom (M.pc s)) s) where
  pub kept : {entry : ℕ} {t : List ℕ} {r : Result ℕ Refusal} {a : List ℕ} → Figured k rom entry t r a
      → (n : ℕ) → r ≡ Ok n → (s : M.State) → (Good k (length rom) (length t) entry → Kept s) → M.pc s ≡ entry → Bounded (keeping M) (keeps s []) n
  kept {entry} {t} {r} {a} p n e s holds h =
      let x = told_of (asked_of k (length rom) (length t) entry) (flow_at k rom) (length rom) entry t r a n e p.in_order in
      let g = fit_good k (length rom) (length t) entry x.0 in
      let y = told_longest n e x.1 in
      bounded M O (flow_at k rom) (length rom) (good_listing k rom bytes g).outside Kept step s n (holds g) (rw h y.clear) (rw h y.largest)
