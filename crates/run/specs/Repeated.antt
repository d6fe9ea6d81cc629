-- A run read as the repeated step: so many steps with so many states lead from the start to where it ended, none of them made at the stop address.
use Rattle.std.specs.Prelude.{ℕ, ◌<◌, ◌≡◌, List}
use Rattle.registers.specs.declared.Registers.{Registers}
use Rattle.memory.specs.declared.Board.{Board}
use Rattle.machine.specs.Machine.{Steps}
use Rattle.step.specs.Processor.{State, processor}
use Rattle.run.specs.Run.{Ran}
use Rattle.run.specs.declared.Ending.{Ending}
use Rattle.run.specs.declared.Ending.TheVariants.{AtStop, Spent, Halted}

abbrev pub state : Registers → List ℕ → State
state r m = record { regs = r; mem = m }

-- PC is not at the stop address
abbrev pub Away : ℕ → State → Type 0
Away stop s = s.regs.pc ≡ stop → ⊥

-- why a run ended at t after so many steps: the stop address is looked for first, then the spent budget, then a step is refused
abbrev pub EndedBy : Board → List ℕ → ℕ → ℕ → ℕ → State → Ending → Type 0
EndedBy b rom stop budget steps t AtStop = t.regs.pc ≡ stop
EndedBy b rom stop budget steps t Spent = Away stop t × (steps ≡ budget)
EndedBy b rom stop budget steps t (Halted f) = Away stop t × (steps < budget) × (processor b rom).Refuses t f

pub record Repeated (b : Board) (rom ram : List ℕ) (r : Registers) (stop budget : ℕ) (a : Ran) : Type 0 where
  pub led : Steps (processor b rom) (Away stop) (state r ram) a.answer.steps a.answer.states (state a.answer.regs a.mem)
  pub ended : EndedBy b rom stop budget a.answer.steps (state a.answer.regs a.mem) a.answer.why
