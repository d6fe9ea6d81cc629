-- A run: the step repeated (document 01, "The board and a run").
use Rattle.std.specs.Prelude.{ℕ, zero, suc, ◌+◌, cond, List, ltb, eqb, Result, Ok, Err}
use Rattle.refusal.specs.declared.Refusal.{Refusal}
use Rattle.refusal.specs.declared.Refusal.TheVariants.{BadBoard, BudgetTooLarge}
use Rattle.registers.specs.declared.Registers.{Registers}
use Rattle.memory.specs.declared.Board.{Board}
use Rattle.step.specs.Step.{step_of, good_start}
use Rattle.run.specs.declared.Ending.{Ending}
use Rattle.run.specs.declared.Ending.TheVariants.{AtStop, Spent, Halted}
use Rattle.run.specs.declared.RunAnswer.{RunAnswer}

-- a run's answer, and working memory after it
pub record Ran : Type 0 where
  pub answer : RunAnswer
  pub mem : List ℕ

abbrev pub ran : RunAnswer → List ℕ → Ran
ran a m = record { answer = a; mem = m }

abbrev pub told : Registers → ℕ → ℕ → Ending → RunAnswer
told r steps states why = record { regs = r; steps = steps; states = states; why = why }

-- a completed step goes on; a refused one ends the run, and keeps the work of those before it
abbrev pub onward : Result (Unit {0}) Refusal → Ran → (Refusal → Ran) → Ran
onward (Ok tt) go end = go
onward (Err f) go end = end f

module _ (b : Board) (rom : List ℕ) (stop : ℕ) where
  -- with n steps of the budget left, after so many steps and states: first the stop address, then the spent budget, then a step
  unfoldable pub run_from : ℕ → List ℕ → Registers → ℕ → ℕ → Ran
  run_from zero ram r steps states =
      cond (eqb r.pc stop) (ran (told r steps states AtStop) ram) (ran (told r steps states Spent) ram)
  run_from (suc n) ram r steps states =
      cond (eqb r.pc stop) (ran (told r steps states AtStop) ram)
      (onward (step_of b rom ram r).answer.outcome
      (run_from n (step_of b rom ram r).mem (step_of b rom ram r).answer.regs (steps + 1)
      (states + (step_of b rom ram r).answer.states))
      (λ f. ran (told r steps states (Halted f)) (step_of b rom ram r).mem))

-- 12, then 1, then steps
unfoldable pub run_of : Board → List ℕ → List ℕ → Registers → ℕ → ℕ → Ran
run_of b rom ram r stop budget =
    cond (ltb 1000000 budget) (ran (told r 0 0 (Halted BudgetTooLarge)) ram)
    (cond (good_start b rom ram r) (run_from b rom stop budget ram r 0 0)
    (ran (told r 0 0 (Halted BadBoard)) ram))
