-- host/h8.h, "THE REGISTERS": ten numbers, ER0 to ER7, PC and the condition byte.
use Rattle.std.specs.Prelude.{ℕ, ◌%◌, List, [], ◌∷◌, get_or}
use Rattle.registers.specs.Condition.{condition_of, byte_of}
use Rattle.registers.specs.declared.Registers.{Registers}

abbrev pub registers_length : ℕ
registers_length = 10

unfoldable pub registers_of : List ℕ → Registers
registers_of l =
    record {
      er = get_or l 0 0 ∷ get_or l 1 0 ∷ get_or l 2 0 ∷ get_or l 3 0 ∷ get_or l 4 0 ∷ get_or l 5 0 ∷ get_or l 6 0 ∷ get_or l 7 0 ∷ [];
      pc = get_or l 8 0;
      condition = condition_of (get_or l 9 0 % 256);
    }

unfoldable pub ten_of : Registers → List ℕ
ten_of r =
    get_or r.er 0 0 ∷ get_or r.er 1 0 ∷ get_or r.er 2 0 ∷ get_or r.er 3 0 ∷ get_or r.er 4 0 ∷ get_or r.er 5 0 ∷ get_or r.er 6 0
    ∷ get_or r.er 7 0 ∷ r.pc ∷ byte_of r.condition ∷ []
