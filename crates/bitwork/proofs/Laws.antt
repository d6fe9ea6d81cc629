-- What the parts of a bit instruction leave. Assumes nothing.
use Rattle.std.specs.Prelude.{Result, Ok}
use Prim.Native.Nat.{ℕ, ◌%◌}
use mathlib.Core.Path.{◌≡◌, sym, ◌∙◌, ap, ap₂}
use mathlib.Core.Bool.{Bool, true, false}
use mathlib.Core.List.{List, [], ◌∷◌}
use native.Mathlib.Nat.{mod-mod}
use Rattle.refusal.specs.declared.Refusal.{Refusal}
use Rattle.arith.specs.declared.Width.TheVariants.{Byte}
use Rattle.registers.specs.declared.Condition.{Condition}
use Rattle.registers.specs.declared.Registers.{Registers}
use Rattle.registers.specs.Lent.{lent}
use Rattle.memory.specs.Access.{write_of, wrote}
use Rattle.memory.specs.Trail.{touch_of, noted, call_noted}
use Rattle.memory.specs.declared.Board.{Board}
use Rattle.operate.specs.MirrorLent.{effect_in}
use Rattle.operate.specs.Results.{Effect}
use Rattle.moves.specs.Made.{trail_of}
use Rattle.moves.specs.Moves.{stepped, address_of, step_over}
use Rattle.moves.specs.MirrorMoves.{kept_of}
use Rattle.moves.proofs.Laws.{kept_stored, noted_kept}
use Rattle.bits.specs.Bits.{bit_of, with_bit}
use Rattle.bits.specs.Effects.{taken_of, given_of}
use Rattle.codes.specs.Cycles.{touch}
use Rattle.codes.specs.declared.Dir.TheVariants.{Load, Store}
use Rattle.codes.specs.declared.Place.TheVariants.{Abs24}
use Rattle.codes.specs.declared.Take.{Take}
use Rattle.codes.specs.declared.Give.{Give}
use Rattle.codes.specs.declared.Index.{Index}
use Rattle.codes.specs.declared.Index.TheVariants.{Numbered, ByPart}
use Rattle.bitwork.specs.Bitwork.{number_of, took_of, gave_of, gave_to}

low_three : (index : Index) (r : Registers) → number_of index r % 8 ≡ number_of index r
unfolding number_of
low_three (Numbered n) r = mod-mod n 8
low_three (ByPart s) r = mod-mod _ 8

module _ (index : Index) (x n pc : ℕ) (er : List ℕ) (f : Condition) (v : Bool) (h : n ≡ number_of index (lent er pc f)) (w : v ≡ bit_of (n % 8) x) where
  number_is : n % 8 ≡ number_of index (lent er pc f)
  number_is = ap (λ (m : ℕ). m % 8) h ∙ low_three index (lent er pc f)

  bit_is : v ≡ bit_of (number_of index (lent er pc f)) x
  bit_is = w ∙ ap (λ (m : ℕ). bit_of m x) number_is

  pub taken_is : (take : Take) (g : Condition) → g ≡ taken_of take v f → lent er pc g ≡ took_of take index x (lent er pc f)
  unfolding took_of
  taken_is take g e = ap (λ (c : Condition). lent er pc c) (e ∙ ap (λ (u : Bool). taken_of take u f) bit_is)

  pub given_is : (give : Give) (u : Bool) (y : ℕ) → u ≡ given_of give v f.c → y ≡ with_bit (n % 8) x u → y ≡ gave_of give index x (lent er pc f)
  unfolding gave_of
  given_is give u y d e = e ∙ ap₂ (λ (m : ℕ) (t : Bool). with_bit m x t) number_is (d ∙ ap (λ (t : Bool). given_of give t f.c) bit_is)

-- the byte written back
pub given_stored : (give : Give) (index : Index) (a x y pc : ℕ) (er : List ℕ) (f : Condition) (b : Board) (ram ram' : List ℕ) (p : Result (Unit {0}) Refusal)
    → y ≡ gave_of give index x (lent er pc f) → wrote p ram' ≡ write_of Byte b ram a y
    → stepped (effect_in er pc (kept_of p f f)) ram' ≡ gave_to (Ok x) give index a (lent er pc f) b ram
unfolding gave_to
given_stored give index a x y pc er f b ram ram' p u m = rw (sym u, sym m) (ap (λ (e : Effect). stepped e ram') (kept_stored p er pc f f))

-- the read noted, and behind it the write
pub noted_given : (t t₁ t₂ pc a : ℕ) (er : List ℕ) (f : Condition) (p : Result (Unit {0}) Refusal) → t₁ ≡ noted t (touch_of false Byte a) → t₂ ≡ call_noted p t₁ (touch_of true Byte a)
    → (kept_of p f f).outcome ≡ Ok tt → t₂ ≡ trail_of (lent er pc f) t (touch Load Byte (Abs24 a) ∷ touch Store Byte (Abs24 a) ∷ [])
unfolding address_of step_over
noted_given t t₁ t₂ pc a er f p h k o = rw h at (noted_kept t₁ t₂ (touch_of true Byte a) p f f k o)
