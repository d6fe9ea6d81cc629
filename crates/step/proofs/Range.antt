-- Registers stay in range: eight registers of 32 bits, whatever the instruction.
use Prim.Native.Nat.{ℕ}
use mathlib.Core.Bool.{Bool}
use Rattle.registers.specs.declared.Registers.{Registers}
use Rattle.registers.specs.declared.Condition.{Condition}
use Rattle.registers.specs.Parts.{with_part, with_condition}
use Rattle.registers.proofs.Kept.{Whole, whole_part, whole_condition}
use Rattle.operate.specs.Operate.{stc_of, ldc_of, ccr_of, operated_of, alu_of, inc_dec_of, carried_of, adds_subs_of, added_of, shift_of, unary_of}
use Rattle.multiply.specs.Multiply.{put_of, multiply_of}
use Rattle.moves.specs.Moves.{step_over}
use Rattle.bitwork.specs.Bitwork.{took_of}
use Rattle.arith.specs.declared.Moved.{Moved}
use Rattle.products.specs.declared.Half.{Half}
use Rattle.products.specs.Products.{product_width}
use Rattle.codes.specs.declared.Sign.{Sign}
use Rattle.codes.specs.declared.Sign.TheVariants.{Unsigned, Signed}
use Rattle.arith.specs.declared.Width.{Width}
use Rattle.arith.specs.declared.Width.TheVariants.{Byte, Long}
use Rattle.codes.specs.declared.Op.{Op}
use Rattle.codes.specs.declared.Op.TheVariants.{Add, Sub, Cmp, Mov, Addx, Subx, Or, Xor, And}
use Rattle.codes.specs.declared.Source.{Source}
use Rattle.codes.specs.declared.Way.{Way}
use Rattle.codes.specs.declared.Way.TheVariants.{Up, Down}
use Rattle.codes.specs.declared.By.{By}
use Rattle.codes.specs.declared.Turn.{Turn}
use Rattle.codes.specs.declared.Single.{Single}
use Rattle.codes.specs.declared.Single.TheVariants.{Not, Neg, Extu, Exts}
use Rattle.codes.specs.declared.Change.{Change}
use Rattle.codes.specs.declared.Take.{Take}
use Rattle.codes.specs.declared.Index.{Index}
use Rattle.codes.specs.declared.Place.{Place}
use Rattle.codes.specs.declared.Place.TheVariants.{At, Step, Disp, Abs8, Abs16, Abs24}

-- a part replaced, and flags
result : (w : Width) (r : Registers) (d x : ℕ) (f : Condition) → Whole r → Whole (with_condition (with_part w r d x) f)
result w r d x f h = whole_condition (with_part w r d x) f (whole_part w r d x h)

pub whole_stc : (d : ℕ) (r : Registers) → Whole r → Whole (stc_of d r)
unfolding stc_of
whole_stc d r h = whole_part Byte r d _ h

pub whole_ldc : (s : ℕ) (r : Registers) → Whole r → Whole (ldc_of s r)
unfolding ldc_of
whole_ldc s r h = whole_condition r _ h

pub whole_ccr : (change : Change) (v : ℕ) (r : Registers) → Whole r → Whole (ccr_of change v r)
unfolding ccr_of
whole_ccr change v r h = whole_condition r _ h

whole_operated : (op : Op) (w : Width) (a s d : ℕ) (r : Registers) → Whole r → Whole (operated_of op w a s d r)
unfolding operated_of
whole_operated Add w a s d r h = result w r d _ _ h
whole_operated Sub w a s d r h = result w r d _ _ h
whole_operated Cmp w a s d r h = whole_condition r _ h
whole_operated Mov w a s d r h = result w r d _ _ h
whole_operated Addx w a s d r h = result w r d _ _ h
whole_operated Subx w a s d r h = result w r d _ _ h
whole_operated Or w a s d r h = result w r d _ _ h
whole_operated Xor w a s d r h = result w r d _ _ h
whole_operated And w a s d r h = result w r d _ _ h

pub whole_alu : (op : Op) (w : Width) (s : Source) (d : ℕ) (r : Registers) → Whole r → Whole (alu_of op w s d r)
unfolding alu_of
whole_alu op w s d r h = whole_operated op w _ _ d r h

pub whole_inc_dec : (way : Way) (w : Width) (by : By) (d : ℕ) (r : Registers) → Whole r → Whole (inc_dec_of way w by d r)
unfolding inc_dec_of
whole_inc_dec Up w by d r h = result w r d _ _ h
whole_inc_dec Down w by d r h = result w r d _ _ h

pub whole_carried : (way : Way) (n e : ℕ) (r : Registers) → Whole r → Whole (carried_of way n e r)
unfolding carried_of
whole_carried Up n e r h = whole_part Long r e _ h
whole_carried Down n e r h = whole_part Long r e _ h

pub whole_adds_subs : (way : Way) (by : By) (e : ℕ) (r : Registers) → Whole r → Whole (adds_subs_of way by e r)
unfolding adds_subs_of
whole_adds_subs way by e r h = whole_carried way _ e r h

pub whole_added : (v : ℕ) (c : Bool) (x d : ℕ) (r : Registers) → Whole r → Whole (added_of v c x d r)
unfolding added_of
whole_added v c x d r h = result Byte r d _ _ h

pub whole_shift : (turn : Turn) (w : Width) (d : ℕ) (r : Registers) → Whole r → Whole (shift_of turn w d r)
unfolding shift_of
whole_shift turn w d r h = result w r d _ _ h

pub whole_unary : (single : Single) (w : Width) (d : ℕ) (r : Registers) → Whole r → Whole (unary_of single w d r)
unfolding unary_of
whole_unary Not w d r h = result w r d _ _ h
whole_unary Neg w d r h = result w r d _ _ h
whole_unary Extu w d r h = result w r d _ _ h
whole_unary Exts w d r h = result w r d _ _ h

pub whole_put : (h : Half) (d : ℕ) (r : Registers) (x : Moved) → Whole r → Whole (put_of h d r x)
unfolding put_of
whole_put h d r x w = result (product_width h) r d _ _ w

pub whole_multiply : (sign : Sign) (h : Half) (s d : ℕ) (r : Registers) → Whole r → Whole (multiply_of sign h s d r)
unfolding multiply_of
whole_multiply Unsigned h s d r w = whole_part (product_width h) r d _ w
whole_multiply Signed h s d r w = whole_put h d r _ w

pub whole_over : (way : Way) (w : Width) (p : Place) (r : Registers) → Whole r → Whole (step_over way w p r)
unfolding step_over
whole_over way w (At e) r h = h
whole_over way w (Step e) r h = whole_carried way _ e r h
whole_over way w (Disp e d) r h = h
whole_over way w (Abs8 a) r h = h
whole_over way w (Abs16 a) r h = h
whole_over way w (Abs24 a) r h = h

pub whole_took : (take : Take) (index : Index) (x : ℕ) (r : Registers) → Whole r → Whole (took_of take index x r)
unfolding took_of
whole_took take index x r h = whole_condition r _ h
