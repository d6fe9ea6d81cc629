-- A run of any machine, and what a figure promises of it. Document 01, "The routine's figure": "In demand 3 a run returns when its first RTS
-- completes; it is read as the repeated step from PC at the entry, with no stop address and enough budget, and a refused step adds no step or state."
-- Document 02, W9, reads it for the mode that keeps pushed addresses, `keeping` of machine, which may also end without a step.
use Rattle.std.specs.Prelude.{ℕ, ◌+◌, ◌≤◌}
use Rattle.machine.specs.Machine.{Machine, Steps, Leaving, ninth, elsewhere, ByData}
use Rattle.refusal.specs.declared.Refusal.{Refusal}

pub data Ending : Type 0 where
  returned : Ending
  stopped : Refusal → Ending
  left : Leaving → Ending

-- no return stands at PC
abbrev pub Off : (M : Machine) → M.State → Type 0
Off M s = M.AtReturn s → ⊥

-- a run from a state: its steps, the sum of their states, and how it ends. Its first return completes, or a step is refused, which adds neither, or the
-- machine leaves without a step
pub data Run (M : Machine) : M.State → ℕ → ℕ → Ending → Type 0 where
  returns : {s t u : M.State} {c m n : ℕ} → Steps M (Off M) s c m t → M.AtReturn t → M.Does t u n → Run M s (c + 1) (m + n) returned
  stops : {s t : M.State} {c m : ℕ} {r : Refusal} → Steps M (Off M) s c m t → M.Refuses t r → Run M s c m (stopped r)
  leaves : {s t : M.State} {c m : ℕ} {e : Leaving} → Steps M (Off M) s c m t → M.Leaves t e → Run M s c m (left e)

-- "Beside returning and the refusals, a return elsewhere is the only end demand 3 then allows"
abbrev pub Fair : Ending → Type 0
Fair returned = Unit {0}
Fair (stopped r) = ByData r
Fair (left elsewhere) = Unit {0}
Fair (left ninth) = ⊥

-- with enough budget the run from s returns, is refused by its data (5, 6, 7 or 14), or ends at a return elsewhere; and within any budget its states are
-- never more than n
pub record Bounded (M : Machine) (s : M.State) (n : ℕ) : Type 0 where
  pub steps : ℕ
  pub states : ℕ
  pub ending : Ending
  pub run : Run M s steps states ending
  pub fair : Fair ending
  pub within : (c m : ℕ) (t : M.State) → Steps M (Off M) s c m t → m ≤ n
  pub in_states : states ≤ n
