-- The instruction that a row names is the one valid instruction whose row it is.
use Rattle.std.specs.Prelude.{Some, None, Result, Ok, Err}
use mathlib.Core.Path.{◌≡◌, refl, ◌∙◌, ap}
use mathlib.Core.Bool.{Bool, true, false, cond, ◌&&◌, false≢true}
use mathlib.Core.List.{List, [], ◌∷◌}
use Prim.Native.Nat.{ℕ, ◌%◌, ◌≤◌, ◌<◌}
use native.Mathlib.Omega.{arith}
use lib.Dec.{eqb}
use lib.ListN.{length, take}
use borrow.Author.Tests.{eq-eqb, eqb-true}
use Rattle.layout.specs.Names.{Width, Byte, Word, Long, Reg, Imm, Place, At, Step, Disp, Abs8, Abs16, Abs24, Reach, Near, Far, Target, ByReg, Direct, Vector}
use Rattle.layout.specs.Names.{Instruction, Nop, Stc, LdcReg, Ccr, Alu, IncDec, AddsSubs, Decimal, Shift, Unary, Multiply, Divide, Takes, Gives, Move, Bcc, Jmp, Bsr, Jsr, Rts}
use Rattle.layout.specs.Names.{Index, Numbered, ByPart, Spot, InPart, AtEr, AtAbs}
use Rattle.products.specs.Products.{factor_width, product_width}
use Rattle.codes.specs.Valid.{Valid, Digit, HasIndex, HasSpot, HasPlace, HasReach, HasTarget}
use Rattle.layout.specs.Names.{Refusal}
use Rattle.layout.specs.declared.rows.Row.{Row}
use Rattle.layout.specs.Rows.{row_of, place_row, reach_row, target_row, index_form, index_other, spot_form, spot_value, spot_reg, seven}
use Rattle.layout.specs.MirrorRows.{place_at, reach_at, target_at, index_at, spot_at, read_row, same_of, if_row, named_of}
use Rattle.layout.specs.MirrorLent.{row_in}
use Rattle.layout.proofs.Backs.{width_back, change_back, op_back, way_back, by_back, turn_back, single_back, dir_back, sign_back, half_back, take_back, give_back}

digit_back : (w : Width) (r : ℕ) → Digit w r → r % 256 ≡ r
digit_back Byte r h = omega arith
digit_back Word r h = omega arith
digit_back Long r h = omega arith

place_back : (w : Width) (p : Place) → HasPlace w p → place_at (place_row p) ≡ Ok p
place_back w (At e) h = ap (λ x. Ok (At x)) (omega arith)
place_back w (Step e) h = ap (λ x. Ok (Step x)) (omega arith)
place_back w (Disp e d) (h, k) = let p : e % 256 ≡ e = omega arith in let q : d % 65536 ≡ d = omega arith in rw (p, q)
place_back w (Abs8 a) (h, k) = ap (λ x. Ok (Abs8 x)) (omega arith)
place_back w (Abs16 a) h = ap (λ x. Ok (Abs16 x)) (omega arith)
place_back w (Abs24 a) h = refl

reach_back : (reach : Reach) → HasReach reach → reach_at (reach_row reach) ≡ Ok reach
reach_back (Near d) h = ap (λ x. Ok (Near x)) (omega arith)
reach_back (Far d) h = ap (λ x. Ok (Far x)) (omega arith)

target_back : (t : Target) → HasTarget t → target_at (target_row t) ≡ Ok t
target_back (ByReg e) h = ap (λ x. Ok (ByReg x)) (omega arith)
target_back (Direct a) h = refl
target_back (Vector a) h = ap (λ x. Ok (Vector x)) (omega arith)

index_back : (P : Type 0) (index : Index) → HasIndex P index → index_at (index_form index) (index_other index) ≡ Ok index
index_back P (Numbered n) h = ap (λ x. Ok (Numbered x)) (omega arith)
index_back P (ByPart r) h = ap (λ x. Ok (ByPart x)) (omega arith)

spot_back : (spot : Spot) → HasSpot spot → spot_at (spot_form spot) (spot_value spot) (spot_reg spot) ≡ Ok spot
spot_back (InPart d) h = ap (λ x. Ok (InPart x)) (omega arith)
spot_back (AtEr e) h = ap (λ x. Ok (AtEr x)) (omega arith)
spot_back (AtAbs a) h = ap (λ x. Ok (AtAbs x)) (omega arith)

small : (r : ℕ) → r < 16 → r % 256 ≡ r
small r h = omega arith

-- a valid instruction is read back from its row
pub read_back : (i : Instruction) → Valid i → read_row (row_of i) ≡ Ok i
unfolding read_row row_of
read_back Nop v = refl
read_back (Stc d) v = ap (λ x. Ok (Stc x)) (small d v)
read_back (LdcReg s) v = ap (λ x. Ok (LdcReg x)) (small s v)
read_back (Ccr change x) v = let p : x % 256 ≡ x = omega arith in rw (change_back change, p)
read_back (Alu op w (Reg s) d) (h, j, k) = rw (op_back op, width_back w, digit_back w s j, digit_back w d k)
read_back (Alu op w (Imm x) d) (h, j, k) = rw (op_back op, width_back w, digit_back w d k)
read_back (IncDec way w by d) (h, k) = rw (way_back way, width_back w, by_back by, digit_back w d k)
read_back (AddsSubs way by d) v = rw (way_back way, by_back by, small d (omega arith))
read_back (Decimal way d) v = rw (way_back way, small d v)
read_back (Shift turn w d) v = rw (turn_back turn, width_back w, digit_back w d v)
read_back (Unary single w d) (h, k) = rw (single_back single, width_back w, digit_back w d k)
read_back (Multiply sign h s d) (j, k) = rw (sign_back sign, half_back h, digit_back (factor_width h) s j, digit_back (product_width h) d k)
read_back (Divide sign h s d) (j, k) = rw (sign_back sign, half_back h, digit_back (factor_width h) s j, digit_back (product_width h) d k)
read_back (Takes take index spot) (j, k) = rw (take_back take, index_back _ index j, spot_back spot k)
read_back (Gives give index spot) (j, k) = rw (give_back give, index_back _ index j, spot_back spot k)
read_back (Move dir w p d) (h, k) = rw (dir_back dir, width_back w, place_back w p h, digit_back w d k)
read_back (Bcc c reach) (h, k) = rw (small c h, reach_back reach k)
read_back (Jmp target) v = rw (target_back target v)
read_back (Bsr reach) v = rw (reach_back reach v)
read_back (Jsr target) v = rw (target_back target v)
read_back Rts v = refl

-- ---- rows are compared number by number

alike : (n : ℕ) → eqb n n ≡ true
alike n = eq-eqb n n refl

same_refl : (f : Row) → same_of f f ≡ true
same_refl f = simp alike

both : (p q : Bool) → p && q ≡ true → (p ≡ true) × (q ≡ true)
both true q h = (refl, h)
both false q h = absurd (false≢true h)

abbrev made : ℕ → ℕ → ℕ → ℕ → ℕ → ℕ → ℕ → Row
made kind which width form other value reg = record { kind = kind; which = which; width = width; operand = record { form = form; other = other; value = value }; reg = reg }

fields_eq : (f g : Row) → f.kind ≡ g.kind → f.which ≡ g.which → f.width ≡ g.width → f.operand.form ≡ g.operand.form → f.operand.other ≡ g.operand.other → f.operand.value ≡ g.operand.value → f.reg ≡ g.reg → f ≡ g
fields_eq f g a b c d e h i =
    let all : made f.kind f.which f.width f.operand.form f.operand.other f.operand.value f.reg ≡ made g.kind g.which g.width g.operand.form g.operand.other g.operand.value g.reg = cc in
    all

same_eq : (f g : Row) → same_of f g ≡ true → f ≡ g
same_eq f g h =
    let a = both _ _ h in
    let b = both _ _ a.0 in
    let c = both _ _ b.0 in
    let d = both _ _ c.0 in
    let o = both _ _ b.1 in
    let p = both _ _ o.0 in
    fields_eq f g (eqb-true _ _ d.0) (eqb-true _ _ d.1) (eqb-true _ _ c.1) (eqb-true _ _ p.0) (eqb-true _ _ p.1) (eqb-true _ _ o.1) (eqb-true _ _ a.1)

-- ---- what `name_of` answers

pub named_valid : (f : Row) (i : Instruction) → Valid i → f ≡ row_of i → named_of f ≡ Some i
unfolding named_of
named_valid f i v e = rw (e, read_back i v, same_refl (row_of i))

picked : (t : Bool) (i j : Instruction) → cond t (Some j) None ≡ Some i → (t ≡ true) × (j ≡ i)
picked true i j h = (refl, cc)
picked false i j h = let z : ◌≡◌ {A = ℕ} 0 1 = cc in absurd (omega arith)

read_is : (f : Row) (i : Instruction) (r : Result Instruction Refusal) → if_row f r ≡ Some i → f ≡ row_of i
read_is f i (Ok j) h = let p = picked _ i _ h in same_eq f _ p.0 ∙ ap row_of p.1
read_is f i (Err e) h = let z : ◌≡◌ {A = ℕ} 0 1 = cc in absurd (omega arith)

pub named_is : (f : Row) (i : Instruction) → named_of f ≡ Some i → f ≡ row_of i
unfolding named_of
named_is f i h = read_is f i (read_row f) h

pub named_none : (f : Row) → named_of f ≡ None → (i : Instruction) → Valid i → f ≡ row_of i → ⊥
named_none f h i v e = let q = named_valid f i v e in let z : ◌≡◌ {A = ℕ} 0 1 = cc in omega arith

-- ---- a row in a lent array

pub first_seven : (l : List ℕ) → 7 ≤ length l → take 7 l ≡ seven (row_in l)
unfolding row_in
first_seven [] h = absurd (omega arith)
first_seven (a ∷ []) h = absurd (omega arith)
first_seven (a ∷ b ∷ []) h = absurd (omega arith)
first_seven (a ∷ b ∷ c ∷ []) h = absurd (omega arith)
first_seven (a ∷ b ∷ c ∷ d ∷ []) h = absurd (omega arith)
first_seven (a ∷ b ∷ c ∷ d ∷ e ∷ []) h = absurd (omega arith)
first_seven (a ∷ b ∷ c ∷ d ∷ e ∷ f ∷ []) h = absurd (omega arith)
first_seven (a ∷ b ∷ c ∷ d ∷ e ∷ f ∷ g ∷ l) h = refl

pub seven_one : (f g : Row) → seven f ≡ seven g → f ≡ g
seven_one f g h = fields_eq f g (cc) (cc) (cc) (cc) (cc) (cc) (cc)
