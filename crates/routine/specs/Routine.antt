-- The run mode of document 02, W9: "it keeps up to eight pushed addresses and ends, unexecuted, at a ninth or at a return elsewhere than to the
-- address kept last (a further ending) if that step isn't refused; a return to that address takes it off, and the run returns when a return completes
-- with none kept".
use Rattle.std.specs.Prelude.{ℕ, zero, suc, ◌+◌, cond, ◌&&◌, List, [], ◌∷◌, ltb, eqb, length, set, drop, Result, Ok, Err}
use Rattle.refusal.specs.declared.Refusal.{Refusal}
use Rattle.codes.specs.declared.Instruction.{Instruction}
use Rattle.refusal.specs.declared.Refusal.TheVariants.{BadBoard, BudgetTooLarge}
use Rattle.registers.specs.declared.Registers.{Registers}
use Rattle.memory.specs.Board.{good_board}
use Rattle.memory.specs.declared.Board.{Board}
use Rattle.codes.specs.States.{goes_of}
use Rattle.codes.specs.declared.Goes.{Goes}
use Rattle.codes.specs.declared.Goes.TheVariants.{Onward, Branches, Jumps, CallsNear, Calls, Returns}
use Rattle.flow.specs.Targets.{next_of}
use Rattle.decoder.specs.MirrorDecode.{decode_of}
use Rattle.step.specs.Step.{step_of, good_pc}
use Rattle.routine.specs.declared.Ending.{Ending}
use Rattle.routine.specs.declared.Ending.TheVariants.{AtStop, Spent, Halted, Returned, Ninth, Elsewhere}
use Rattle.routine.specs.declared.Kept.{Kept}
use Rattle.routine.specs.declared.RoutineAnswer.{RoutineAnswer}

-- the kept addresses, of which a list has the last first, as an answer has them: in the order pushed, and 0 up to the eighth
abbrev pub in_order_of : List ℕ → List ℕ
in_order_of [] = 0 ∷ 0 ∷ 0 ∷ 0 ∷ 0 ∷ 0 ∷ 0 ∷ 0 ∷ []
in_order_of (k ∷ ks) = set (in_order_of ks) (length ks) k

abbrev pub kept_of : List ℕ → Kept
kept_of ks = record { addresses = in_order_of ks; count = length ks }

-- an answer, and working memory after it
pub record Routined : Type 0 where
  pub answer : RoutineAnswer
  pub mem : List ℕ

abbrev pub routined : RoutineAnswer → List ℕ → Routined
routined a m = record { answer = a; mem = m }

abbrev pub told : Registers → List ℕ → ℕ → ℕ → Ending → RoutineAnswer
told r ks steps states why =
    record { regs = r; steps = steps; states = states; why = why; kept = kept_of ks }

-- what the mode makes of a step that completes: it is taken, with these addresses kept after it; it is taken and the run returns; it is not taken
pub data Turn : Type 0 where
  on : List ℕ → Turn
  goes_home : Turn
  leaves : Ending → Turn

-- a call that pushes k
abbrev pub pushing : ℕ → List ℕ → Turn
pushing k ks = cond (ltb (length ks) 8) (on (k ∷ ks)) (leaves Ninth)

-- a return to p
abbrev pub returning : ℕ → List ℕ → Turn
returning p [] = goes_home
returning p (k ∷ ks) = cond (eqb p k) (on ks) (leaves Elsewhere)

-- by where the instruction at PC lets PC go, the address of the next one, and where PC is after the step: BSR and every JSR push, and RTS returns
unfoldable pub turn_by : Goes → ℕ → List ℕ → ℕ → Turn
turn_by Onward next ks p = on ks
turn_by (Branches c reach) next ks p = on ks
turn_by (Jumps target) next ks p = on ks
turn_by (CallsNear reach) next ks p = pushing next ks
turn_by (Calls target) next ks p = pushing next ks
turn_by Returns next ks p = returning p ks

-- where no code stands no step completes
unfoldable pub turn_of : Result (Instruction × ℕ) Refusal → ℕ → List ℕ → ℕ → Turn
turn_of (Ok (i, n)) pc ks p = turn_by (goes_of i) (next_of pc n) ks p
turn_of (Err f) pc ks p = on ks

unfoldable pub taken : Turn → (List ℕ → Routined) → Routined → (Ending → Routined) → Routined
taken (on ks) go back end = go ks
taken goes_home go back end = back
taken (leaves why) go back end = end why

-- first whether the step is refused
unfoldable pub onward : Result (Unit {0}) Refusal → Routined → (Ending → Routined) → Routined
onward (Ok tt) go end = go
onward (Err f) go end = end (Halted f)

module _ (b : Board) (rom : List ℕ) (stop : ℕ) where
  -- with n steps of the budget left and the addresses ks kept, after so many steps and states: first the stop address, then the spent budget, then a step
  unfoldable pub routine_from : ℕ → List ℕ → Registers → List ℕ → ℕ → ℕ → Routined
  routine_from zero ram r ks steps states =
      cond (eqb r.pc stop) (routined (told r ks steps states AtStop) ram) (routined (told r ks steps states Spent) ram)
  routine_from (suc n) ram r ks steps states =
      cond (eqb r.pc stop) (routined (told r ks steps states AtStop) ram)
      (onward (step_of b rom ram r).answer.outcome
      (taken (turn_of (decode_of r.pc (drop r.pc rom)) r.pc ks (step_of b rom ram r).answer.regs.pc)
      (λ after. routine_from n (step_of b rom ram r).mem (step_of b rom ram r).answer.regs after (steps + 1)
      (states + (step_of b rom ram r).answer.states))
      (routined (told (step_of b rom ram r).answer.regs ks (steps + 1) (states + (step_of b rom ram r).answer.states) Returned)
      (step_of b rom ram r).mem)
      (λ why. routined (told r ks steps states why) ram))
      (λ why. routined (told r ks steps states why) ram))

-- 12, then 1, then steps, with none kept
unfoldable pub routine_of : Board → List ℕ → List ℕ → Registers → ℕ → ℕ → Routined
routine_of b rom ram r stop budget =
    cond (ltb 1000000 budget) (routined (told r [] 0 0 (Halted BudgetTooLarge)) ram)
    (cond (good_board b (length rom) (length ram) && good_pc r.pc) (routine_from b rom stop budget ram r [] 0 0)
    (routined (told r [] 0 0 (Halted BadBoard)) ram))
