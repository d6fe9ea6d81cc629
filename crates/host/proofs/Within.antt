-- The figure and h8_routine. Where `figure` answers n for an entry, the run that h8_routine makes from there, `routine_of`, with any stop address and any budget
-- that is allowed, has at most n states, and makes no ninth level of calls. Assumes nothing.
use Rattle.std.specs.Prelude.{Ok}
use mathlib.Core.Path.{◌≡◌, refl}
use mathlib.Core.Bool.{true}
use mathlib.Core.List.{List}
use Prim.Native.Nat.{ℕ, ◌≤◌}
use lib.ListN.{length}
use Rattle.site.specs.declared.Site.{Site}
use Rattle.registers.specs.declared.Registers.{Registers}
use Rattle.memory.specs.Board.{good_board}
use Rattle.memory.specs.declared.Board.{Board}
use Rattle.machine.specs.Machine.{Machine, Steps, none, more, ByData}
use Rattle.machine.specs.Keeping.{Keeps, keeping}
use Rattle.step.specs.Step.{good_pc}
use Rattle.step.specs.Processor.{processor}
use Rattle.paths.specs.Runs as runs
use Rattle.paths.specs.Runs.{Off, Run, returns, stops, leaves, Fair, Bounded}
use Rattle.figure.specs.Bound.{Carrying, RunsKept}
use Rattle.figure.proofs.Promise.{one_run}
use Rattle.run.specs.Repeated.{state}
use Rattle.routine.specs.Routine.{routine_of}
use Rattle.routine.specs.Repeated.{Before, RunsTo, stopped, spent, halted, ninth_met, elsewhere_met, returned}
use Rattle.routine.specs.declared.Ending.{Ending}
use Rattle.routine.specs.declared.Ending.TheVariants.{AtStop, Spent, Halted, Returned, Ninth, Elsewhere}
use Rattle.routine.proofs.Repeats.{kept_repeated}

-- the endings of such a run
abbrev pub Allowed : Ending → Type 0
Allowed AtStop = Unit {0}
Allowed Spent = Unit {0}
Allowed (Halted f) = ByData f
Allowed Returned = Unit {0}
Allowed Ninth = ⊥
Allowed Elsewhere = Unit {0}

module _ (M : Machine) (stop : ℕ) where
  off : {s t : M.State} {c m : ℕ} → Steps M (Before M stop) s c m t → Steps M (Off M) s c m t
  off none = none
  off (more x d rest) = more x.1 d (off rest)

module _ (b : Board) (rom : List ℕ) {s : Keeps (processor b rom)} {n : ℕ} (B : Bounded (keeping (processor b rom)) s n) where
  -- a run that ends is the one that `Bounded` speaks of
  the_run : {c m : ℕ} {e : runs.Ending} → Run (keeping (processor b rom)) s c m e → (m ≤ n) × Fair e
  the_run r = let (x, y, z) = one_run b rom r B.run in (rw y B.in_states, rw z B.fair)

  module _ (stop budget : ℕ) where
    within : {c m : ℕ} {t : Keeps (processor b rom)} {e : Ending} → RunsTo (keeping (processor b rom)) stop budget s c m t e → (m ≤ n) × Allowed e
    within (stopped l at) = (B.within _ _ _ (off (keeping (processor b rom)) stop l), tt)
    within (spent l a e) = (B.within _ _ _ (off (keeping (processor b rom)) stop l), tt)
    within (halted l a h r) = the_run (stops (off (keeping (processor b rom)) stop l) r)
    within (ninth_met l a h r) = the_run (leaves (off (keeping (processor b rom)) stop l) r)
    within (elsewhere_met l a h r) = the_run (leaves (off (keeping (processor b rom)) stop l) r)
    within (returned l a h r d) = the_run (returns (off (keeping (processor b rom)) stop l) r d)

pub routine_within : (k : Site) (rom : List ℕ) (n : ℕ) (b : Board) (ram : List ℕ) (r : Registers) (stop budget : ℕ) → RunsKept k rom r.pc (Ok n) → Carrying k b
    → good_board b (length rom) (length ram) ≡ true → good_pc r.pc ≡ true → budget ≤ 1000000
    → ((routine_of b rom ram r stop budget).answer.states ≤ n) × Allowed (routine_of b rom ram r stop budget).answer.why
routine_within k rom n b ram r stop budget runs on good at small =
    within b rom (runs n refl b (state r ram) on good refl) stop budget (kept_repeated b rom stop ram r budget (rw (good, at)) small).led
