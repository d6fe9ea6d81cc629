-- The three clauses of `figure`'s contract, all from the first. Assumes nothing.
use Rattle.std.specs.Prelude.{Result}
use mathlib.Core.Path.{◌≡◌, sym, subst, ◌∙◌, ap}
use mathlib.Core.List.{List}
use Prim.Native.Nat.{ℕ}
use native.Mathlib.Omega.{arith}
use Rattle.refusal.specs.declared.Refusal.{Refusal}
use Rattle.codes.specs.Exact.{Bytes}
use Rattle.site.specs.declared.Site.{Site}
use Rattle.memory.specs.declared.Board.{Board}
use Rattle.codes.specs.States.{goes_of}
use Rattle.codes.specs.declared.Goes.{Goes}
use Rattle.step.specs.Step.{After}
use Rattle.machine.specs.Keeping.{Keeps, keeping}
use Rattle.paths.specs.Runs.{Ending, Run}
use Rattle.paths.proofs.Once.{OneStep, keeping_one, run_one}
use Rattle.figure.specs.Answer.{Figured, RefusedExactly}
use Rattle.step.specs.Processor.{Calling, processor}
use Rattle.figure.specs.Bound.{RunsKept}
use Rattle.figure.proofs.Answered.{good_place, exactly}
use Rattle.figure.proofs.Kept.{kept}
use Rattle.figure.proofs.Steps.{same_found, Kept, goes_where}

one_step : (b : Board) (rom : List ℕ) → OneStep (processor b rom)
one_step b rom =
    record {
      one_state = λ s t u n m x y. (
        ap (λ (a : After). record { regs = a.answer.regs; mem = a.mem }) (sym x ∙ y),
        ap (λ (a : After). a.answer.states) (sym x ∙ y),
      );
      one_refusal = λ s f g x y. let o = ap (λ (a : After). a.answer.outcome) (sym x ∙ y) in cc;
      not_both = λ s t n f x y. let o = ap (λ (a : After). a.answer.outcome) (sym x ∙ y) in let z : ◌≡◌ {A = ℕ} 0 1 = cc in omega arith;
      one_push = λ s k l x y. let (i, n, d, c, e) = x in let (j, m, d', c', e') = y in let z : n ≡ m = (same_found (sym d ∙ d')).1 in cc;
      no_push = λ s k x y. let (i, n, d, g) = x in let (j, m, d', c, e) = y in let z : i ≡ j = (same_found (sym d ∙ d')).0 in subst (λ (h : Goes). Calling h) (ap goes_of (sym z) ∙ g) c;
      one_leaving = λ s e f x y. absurd x;
      not_leaving = λ s t n e x y. y;
      not_refused = λ s r e x y. y;
    }

pub runs : {k : Site} {rom : List ℕ} {entry : ℕ} {t : List ℕ} {r : Result ℕ Refusal} {a : List ℕ} → Bytes rom → Figured k rom entry t r a → RunsKept k rom entry r
runs {k} {rom} bytes p n e b s on g h =
    kept k rom bytes (processor b rom) (one_step b rom) (Kept k b on rom bytes) (λ u kept f. goes_where k b on rom bytes u kept f) p n e s (λ good. (g, rw h (good_place good))) h

pub promised : (k : Site) (rom : List ℕ) (entry : ℕ) (t : List ℕ) (r : Result ℕ Refusal) (a : List ℕ) → Bytes rom → Figured k rom entry t r a
    → Figured k rom entry t r a × (RefusedExactly k rom entry t r × RunsKept k rom entry r)
promised k rom entry t r a bytes p = (p, (exactly p, runs bytes p))

-- a start has one run, so that the promise speaks of the run
pub one_run : (b : Board) (rom : List ℕ) {s : Keeps (processor b rom)} {c c' m m' : ℕ} {e e' : Ending} → Run (keeping (processor b rom)) s c m e → Run (keeping (processor b rom)) s c' m' e'
    → (c ≡ c') × (m ≡ m') × (e ≡ e')
one_run b rom x y = run_one (keeping (processor b rom)) (keeping_one (processor b rom) (one_step b rom)) x y
