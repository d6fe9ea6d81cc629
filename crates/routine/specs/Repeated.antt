-- A run of the mode read as the repeated step of `keeping`: so many steps with so many states lead from the start, with none kept, to where it ended.
use Rattle.std.specs.Prelude.{ℕ, ◌+◌, ◌<◌, ◌≡◌, List, []}
use Rattle.refusal.specs.declared.Refusal.{Refusal}
use Rattle.registers.specs.declared.Registers.{Registers}
use Rattle.memory.specs.declared.Board.{Board}
use Rattle.machine.specs.Machine.{Machine, Steps, ninth, elsewhere}
use Rattle.machine.specs.Keeping.{keeps, keeping}
use Rattle.step.specs.Processor.{processor}
use Rattle.run.specs.Repeated.{state}
use Rattle.routine.specs.Routine.{Routined, kept_of}
use Rattle.routine.specs.declared.Ending.{Ending}
use Rattle.routine.specs.declared.Ending.TheVariants.{AtStop, Spent, Halted, Returned, Ninth, Elsewhere}

-- PC is not at the stop address
abbrev pub Away : (M : Machine) → ℕ → M.State → Type 0
Away M stop s = M.pc s ≡ stop → ⊥

-- nor does a return stand there with none kept: the run would have ended with it
abbrev pub Before : (M : Machine) → ℕ → M.State → Type 0
Before M stop s = Away M stop s × (M.AtReturn s → ⊥)

-- a run of M from s, within a budget: why it ended at t after so many steps with so many states. The stop address is looked for first, then the spent
-- budget, then a refused step, then a step that is not taken; a completed return is the last step
pub data RunsTo (M : Machine) (stop budget : ℕ) (s : M.State) : ℕ → ℕ → M.State → Ending → Type 0 where
  stopped : {c m : ℕ} {t : M.State} → Steps M (Before M stop) s c m t → M.pc t ≡ stop → RunsTo M stop budget s c m t AtStop
  spent : {c m : ℕ} {t : M.State} → Steps M (Before M stop) s c m t → Away M stop t → c ≡ budget → RunsTo M stop budget s c m t Spent
  halted : {c m : ℕ} {t : M.State} {f : Refusal} → Steps M (Before M stop) s c m t → Away M stop t → c < budget → M.Refuses t f
      → RunsTo M stop budget s c m t (Halted f)
  ninth_met : {c m : ℕ} {t : M.State} → Steps M (Before M stop) s c m t → Away M stop t → c < budget → M.Leaves t ninth
      → RunsTo M stop budget s c m t Ninth
  elsewhere_met : {c m : ℕ} {t : M.State} → Steps M (Before M stop) s c m t → Away M stop t → c < budget → M.Leaves t elsewhere
      → RunsTo M stop budget s c m t Elsewhere
  returned : {c m n : ℕ} {t u : M.State} → Steps M (Before M stop) s c m t → Away M stop t → c < budget → M.AtReturn t → M.Does t u n
      → RunsTo M stop budget s (c + 1) (m + n) u Returned

-- the answer's addresses are those that the mode keeps
pub record Repeated (b : Board) (rom ram : List ℕ) (r : Registers) (stop budget : ℕ) (a : Routined) : Type 0 where
  pub ks : List ℕ
  pub in_order : a.answer.kept ≡ kept_of ks
  pub led : RunsTo (keeping (processor b rom)) stop budget (keeps (state r ram) []) a.answer.steps a.answer.states (keeps (state a.answer.regs a.mem) ks) a.answer.why
