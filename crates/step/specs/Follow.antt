-- Which address PC is set to after an instruction (document 01, "Numbers, flags and addresses"; manual 002:1362-1388, 2243-2273, 3117). Apart from what the instruction does.
use Rattle.std.specs.Prelude.{ℕ, ◌/◌, ◌%◌, Bool, true, cond, ◌||◌, not, List, eqb, Result, Ok}
use Rattle.std.specs.Bool.{xor}
use Rattle.refusal.specs.declared.Refusal.{Refusal}
use Rattle.arith.specs.declared.Width.TheVariants.{Long}
use Rattle.registers.specs.declared.Condition.{Condition}
use Rattle.registers.specs.declared.Registers.{Registers}
use Rattle.registers.specs.Parts.{part_of}
use Rattle.memory.specs.Access.{read_of}
use Rattle.memory.specs.declared.Board.{Board}
use Rattle.flow.specs.Targets.{target_of}
use Rattle.codes.specs.declared.Target.{Target}
use Rattle.codes.specs.declared.Target.TheVariants.{ByReg, Direct, Vector}
use Rattle.codes.specs.declared.Goes.{Goes}
use Rattle.codes.specs.declared.Goes.TheVariants.{Onward, Branches, Jumps, CallsNear, Calls, Returns}

-- the conditions by half their digit: BRA, BHI, BCC, BNE, BVC, BPL, BGE, BGT
unfoldable pub even_condition : ℕ → Condition → Bool
even_condition k f =
    cond (eqb k 0) true
    (cond (eqb k 1) (not (f.c || f.z))
    (cond (eqb k 2) (not f.c)
    (cond (eqb k 3) (not f.z)
    (cond (eqb k 4) (not f.v)
    (cond (eqb k 5) (not f.n)
    (cond (eqb k 6) (not (xor f.n f.v))
    (not (f.z || xor f.n f.v))))))))

-- an odd digit's condition is the contrary of the one before it: BRN, BLS, BCS, BEQ, BVS, BMI, BLT, BLE
unfoldable pub holds_of : ℕ → Condition → Bool
holds_of c f = xor (even_condition (c / 2) f) (eqb (c % 2) 1)

module _ (r : Registers) (b : Board) (rom ram : List ℕ) where
  -- JMP and JSR: @ER, aa:24, and @@aa:8, a data read of the longword at 000000 to 0000FF
  unfoldable pub aim_of : Target → Result ℕ Refusal
  aim_of (ByReg e) = Ok (part_of Long r e)
  aim_of (Direct a) = Ok a
  aim_of (Vector a) = read_of Long b rom ram a

  -- the target is taken before anything is pushed; RTS reads the longword at ER7
  unfoldable pub follow_of : Goes → ℕ → Result ℕ Refusal
  follow_of Onward next = Ok next
  follow_of (Branches c reach) next = Ok (cond (holds_of c r.condition) (target_of next reach) next)
  follow_of (Jumps target) next = aim_of target
  follow_of (CallsNear reach) next = Ok (target_of next reach)
  follow_of (Calls target) next = aim_of target
  follow_of Returns next = read_of Long b rom ram (part_of Long r 7)
