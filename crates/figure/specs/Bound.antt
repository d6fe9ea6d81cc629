-- The third clause of demand 3, as document 02, W9, reads it: the runs of the processor in the mode that keeps pushed addresses, on every good board with that code and that site, keep to the figure.
use Rattle.std.specs.Prelude.{◌≡◌, true, List, [], ◌⊎◌, ℕ, length, Result, Ok}
use Rattle.refusal.specs.declared.Refusal.{Refusal}
use Rattle.site.specs.declared.Site.{Site}
use Rattle.site.specs.Costs.{Empty}
use Rattle.memory.specs.Board.{good_board}
use Rattle.memory.specs.declared.Board.{Board}
use Rattle.machine.specs.Keeping.{keeps, keeping}
use Rattle.step.specs.Processor.{State, processor}
use Rattle.paths.specs.Runs.{Bounded}

-- the board has that site; or both areas are empty, for then it doesn't matter where they lie
abbrev pub Carrying : Site → Board → Type 0
Carrying k b = (b.site ≡ k) ⊎ (Empty k × Empty b.site)

-- where the answer is a figure n: on every good board with that code and that site, from any registers with PC at the entry and any working memory, with no
-- address kept, the run returns, is refused by 5, 6, 7 or 14, or ends at a return elsewhere; and within any budget its states are at most n
abbrev pub RunsKept : Site → List ℕ → ℕ → Result ℕ Refusal → Type 0
RunsKept k rom entry r =
    (n : ℕ) → r ≡ Ok n → (b : Board) (s : State) → Carrying k b → good_board b (length rom) (length s.mem) ≡ true → s.regs.pc ≡ entry
    → Bounded (keeping (processor b rom)) (keeps s []) n
