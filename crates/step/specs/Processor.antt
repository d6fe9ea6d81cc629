-- The processor as a machine whose step is `step_of`, for all that is said of runs.
use Rattle.std.specs.Prelude.{◌≡◌, List, ℕ, drop, Ok}
use Rattle.codes.specs.States.{goes_of}
use Rattle.codes.specs.declared.Instruction.{Instruction}
use Rattle.codes.specs.declared.Goes.{Goes}
use Rattle.codes.specs.declared.Goes.TheVariants.{Onward, Branches, Jumps, CallsNear, Calls, Returns}
use Rattle.flow.specs.Targets.{next_of}
use Rattle.decoder.specs.MirrorDecode.{decode_of}
use Rattle.registers.specs.declared.Registers.{Registers}
use Rattle.memory.specs.declared.Board.{Board}
use Rattle.machine.specs.Machine.{Machine}
use Rattle.step.specs.Step.{after, answered, stays, step_of}

-- the registers and working memory
pub record State : Type 0 where
  pub regs : Registers
  pub mem : List ℕ

-- BSR and JSR
abbrev pub Calling : Goes → Type 0
Calling Onward = ⊥
Calling (Branches c reach) = ⊥
Calling (Jumps target) = ⊥
Calling (CallsNear reach) = Unit {0}
Calling (Calls target) = Unit {0}
Calling Returns = ⊥

-- on a board with the code `rom`; it is at a return where RTS stands at PC, and BSR and JSR push the address of the next instruction
abbrev pub processor : Board → List ℕ → Machine
processor b rom =
    record {
      State = State;
      pc = λ s. s.regs.pc;
      Does = λ s t n. step_of b rom s.mem s.regs ≡ after (answered t.regs n (Ok tt)) t.mem;
      Refuses = λ s f. step_of b rom s.mem s.regs ≡ after (stays s.regs f) s.mem;
      AtReturn = λ s.
          (i : Instruction) × (n : ℕ) × (decode_of s.regs.pc (drop s.regs.pc rom) ≡ Ok (i, n)) × (goes_of i ≡ Returns);
      Pushes = λ s k.
          (i : Instruction) × (n : ℕ) × (decode_of s.regs.pc (drop s.regs.pc rom) ≡ Ok (i, n)) × Calling (goes_of i) × (k ≡ next_of s.regs.pc n);
      Leaves = λ s e. ⊥;
    }
