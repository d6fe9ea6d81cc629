-- What an operation comes to as an instruction. Assumes nothing.
use Prim.Native.Nat.{ℕ}
use mathlib.Core.Path.{◌≡◌, refl}
use mathlib.Core.Bool.{false}
use mathlib.Core.List.{List}
use mathlib.Core.Logic.{◌≢◌}
use native.Mathlib.Omega.{arith}
use lib.Dec.{ltb}
use borrow.Author.Tests.{le-ltb}
use Rattle.arith.specs.declared.Width.{Width}
use Rattle.registers.specs.declared.Condition.{Condition}
use Rattle.registers.specs.Parts.{part_of}
use Rattle.registers.specs.Lent.{part_in}
use Rattle.operate.specs.MirrorLent.{Does, Operates}
use Rattle.operate.specs.Operate.{source_of, alu_of, inc_dec_of, adds_subs_of, shift_of, unary_of}
use Rattle.flow.specs.Targets.{next_of}
use Rattle.codes.specs.States.{reg_states, imm_states}
use Rattle.codes.specs.declared.Op.{Op}
use Rattle.codes.specs.declared.Way.{Way}
use Rattle.codes.specs.declared.By.{By}
use Rattle.codes.specs.declared.Turn.{Turn}
use Rattle.codes.specs.declared.Single.{Single}
use Rattle.codes.specs.declared.Source.TheVariants.{Reg, Imm}
use Rattle.codes.specs.declared.Instruction.TheVariants.{Alu, IncDec, AddsSubs, Shift, Unary}
use Rattle.step.specs.Follow.{follow_of}
use Rattle.step.specs.Step.{effect_of}
use Rattle.turns.proofs.Laws.{done_acts}
use Rattle.execute.specs.MirrorExecute.{Obeys}

-- OR, XOR and AND are the variants from 6 on
pub past_five : (k : ℕ) → k ≢ 0 → k ≢ 1 → k ≢ 2 → k ≢ 3 → k ≢ 4 → k ≢ 5 → ltb k 6 ≡ false
past_five k a b c d e f = le-ltb k 6 (omega arith)

module _ (er er' : List ℕ) (f f' : Condition) where
  pub reg_obeys : (op : Op) (w : Width) (e d : ℕ) → Operates op w (part_in w er e) d er er' f f' → Obeys (Alu op w (Reg e) d) (reg_states op w) er er' f f'
  unfolding effect_of follow_of alu_of source_of part_of
  reg_obeys op w e d h m pc b rom ram = done_acts (Alu op w (Reg e) d) m (next_of pc m) er pc f b rom ram refl (alu_of op w (Reg e) d) er' f' refl refl h

  pub imm_obeys : (op : Op) (w : Width) (v d : ℕ) → Operates op w v d er er' f f' → Obeys (Alu op w (Imm v) d) (imm_states w) er er' f f'
  unfolding effect_of follow_of alu_of source_of
  imm_obeys op w v d h m pc b rom ram = done_acts (Alu op w (Imm v) d) m (next_of pc m) er pc f b rom ram refl (alu_of op w (Imm v) d) er' f' refl refl h

  pub inc_dec_obeys : (way : Way) (w : Width) (by : By) (d : ℕ) → Does (inc_dec_of way w by d) er er' f f' → Obeys (IncDec way w by d) 2 er er' f f'
  unfolding effect_of follow_of
  inc_dec_obeys way w by d h m pc b rom ram = done_acts (IncDec way w by d) m (next_of pc m) er pc f b rom ram refl (inc_dec_of way w by d) er' f' refl refl h

  pub adds_subs_obeys : (way : Way) (by : By) (d : ℕ) → Does (adds_subs_of way by d) er er' f f' → Obeys (AddsSubs way by d) 2 er er' f f'
  unfolding effect_of follow_of
  adds_subs_obeys way by d h m pc b rom ram = done_acts (AddsSubs way by d) m (next_of pc m) er pc f b rom ram refl (adds_subs_of way by d) er' f' refl refl h

  pub shift_obeys : (t : Turn) (w : Width) (d : ℕ) → Does (shift_of t w d) er er' f f' → Obeys (Shift t w d) 2 er er' f f'
  unfolding effect_of follow_of
  shift_obeys t w d h m pc b rom ram = done_acts (Shift t w d) m (next_of pc m) er pc f b rom ram refl (shift_of t w d) er' f' refl refl h

  pub unary_obeys : (s : Single) (w : Width) (d : ℕ) → Does (unary_of s w d) er er' f f' → Obeys (Unary s w d) 2 er er' f f'
  unfolding effect_of follow_of
  unary_obeys s w d h m pc b rom ram = done_acts (Unary s w d) m (next_of pc m) er pc f b rom ram refl (unary_of s w d) er' f' refl refl h
