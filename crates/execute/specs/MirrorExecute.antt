-- What the groups without memory are proved by. Nothing here is to be believed.
use Rattle.std.specs.Prelude.{ℕ, ◌≡◌, cond, List, ltb, Result, Ok}
use Rattle.refusal.specs.declared.Refusal.{Refusal}
use Rattle.arith.specs.declared.Width.TheVariants.{Long}
use Rattle.registers.specs.declared.Condition.{Condition}
use Rattle.registers.specs.Lent.{part_in}
use Rattle.codes.specs.declared.Source.TheVariants.{Reg}
use Rattle.codes.specs.declared.Instruction.{Instruction}
use Rattle.codes.specs.declared.Instruction.TheVariants.{Alu}
use Rattle.flow.specs.Targets.{next_of}
use Rattle.entry.specs.Entry.{op_of}
use Rattle.turns.specs.declared.Turn.{Turn}
use Rattle.turns.specs.MirrorTurn.{turn, Turns}

-- the instruction i of n states was obeyed, and PC goes on, whatever its length m
abbrev pub Obeys : Instruction → ℕ → List ℕ → List ℕ → Condition → Condition → Type 0
Obeys i n er er' f f' = (m pc : ℕ) → Turns (Ok (i, m)) er er' pc f (turn f' (next_of pc m) n (Ok tt))

-- kind 2 by its variant, where s is what a register e holds
abbrev pub Operates-long : ℕ → ℕ → ℕ → List ℕ → List ℕ → ℕ → Condition → Turn → Type 0
Operates-long k s d er er' pc f t = (e : ℕ) → s ≡ part_in Long er e → Turns (Ok (Alu (op_of k) Long (Reg e) d, cond (ltb k 6) 2 4)) er er' pc f t

-- no register is touched
abbrev pub Branches : Result (Instruction × ℕ) Refusal → ℕ → Condition → Turn → Type 0
Branches d pc f t = (er : List ℕ) → Turns d er er pc f t
