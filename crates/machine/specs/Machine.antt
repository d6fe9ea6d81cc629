-- What a run sees of a machine, and the repeated step. The budgeted run and the runs that a figure speaks of are both said by `Steps`.
use Rattle.std.specs.Prelude.{◌≡◌, ◌⊎◌, ℕ, ◌+◌}
use Rattle.refusal.specs.declared.Refusal.{Refusal}
use Rattle.refusal.specs.Refusals.{number_of}

-- why a run of the mode that keeps pushed addresses ends (document 02, W9): it would push a ninth, or return elsewhere than to the one kept last
pub data Leaving : Type 0 where
  ninth : Leaving
  elsewhere : Leaving

-- PC of a state; a step that completes, with its states; a step that is refused; whether a return (RTS) stands at PC; whether a call does, with the
-- address that it pushes; and whether it ends there without a step
pub record Machine : Type 1 where
  pub State : Type 0
  pub pc : State → ℕ
  pub Does : State → State → ℕ → Type 0
  pub Refuses : State → Refusal → Type 0
  pub AtReturn : State → Type 0
  pub Pushes : State → ℕ → Type 0
  pub Leaves : State → Leaving → Type 0

-- c steps with m states lead from s to t, each from a state that `Through` lets pass
pub data Steps (M : Machine) (Through : M.State → Type 0) : M.State → ℕ → ℕ → M.State → Type 0 where
  none : {s : M.State} → Steps M Through s 0 0 s
  more : {s t u : M.State} {n c m : ℕ} → Through s → M.Does s t n → Steps M Through t c m u → Steps M Through s (c + 1) (n + m) u

-- refused by a data access (5, 6), a decimal adjustment (7) or a division (14, document 02, W1)
abbrev pub ByData : Refusal → Type 0
ByData r = (number_of r ≡ 5) ⊎ ((number_of r ≡ 6) ⊎ ((number_of r ≡ 7) ⊎ (number_of r ≡ 14)))
