-- What "nothing else changes" rests on: a part read after it was replaced is the new one, every other part is as before, and so are PC and the condition byte.
use Prim.Native.Nat.{ℕ, ◌+◌, ◌*◌, ◌/◌, ◌%◌, ◌^◌, ◌≤◌, ◌<◌, min, max}
use mathlib.Core.Path.{◌≡◌, refl, sym}
use mathlib.Core.Logic.{◌≢◌}
use mathlib.Core.Bool.{cond, Bool, true, false}
use mathlib.Core.List.{List}
use native.Mathlib.Omega.{arith}
use borrow.Author.Tests.{eqb-true, eqb-false}
use lib.Dec.{ltb, eqb}
use lib.ListN.{get_or, set, length, length-set}
use lib.Seq.{get_or-set_same, get_or-set_other}
use Rattle.arith.specs.Widths.{bits_of}
use Rattle.arith.specs.declared.Width.{Width}
use Rattle.arith.specs.declared.Width.TheVariants.{Byte, Word, Long}
use Rattle.registers.specs.declared.Condition.{Condition}
use Rattle.registers.specs.declared.Registers.{Registers}
use Rattle.registers.specs.Parts.{below_of, part_of, insert_of, with_part, with_condition, with_pc}

-- the five kinds of part: RnH, RnL, Rn, En, ERn, by what lies below and by the part's own power
module _ (P : ℕ → ℕ → Type 0) (RnH : P 256 256) (RnL : P 1 256) (Rn : P 1 65536) (En : P 65536 65536) (ERn : P 1 4294967296) where
  half : (p q m : ℕ) → P p m → P q m → (b : Bool) → P (cond b p q) m
  half p q m x y true = x
  half p q m x y false = y

  pub kinds : (w : Width) (d : ℕ) → P (below_of w d) (2 ^ bits_of w)
  kinds Byte d = half 256 1 256 RnH RnL (ltb d 8)
  kinds Word d = half 1 65536 65536 Rn En (ltb d 8)
  kinds Long d = ERn

abbrev put : ℕ → ℕ → ℕ → ℕ → ℕ
put p m old x = old / (p * m) * (p * m) + x % m * p + old % p

new_part : (w : Width) (d old x : ℕ) → old < 2 ^ 32 → insert_of w d old x / below_of w d % 2 ^ bits_of w ≡ x % 2 ^ bits_of w
unfolding insert_of
new_part w d old x l =
    kinds (λ p m. put p m old x / p % m ≡ x % m) (omega arith) (omega arith) (omega arith) (omega arith) (omega arith) w d

-- two parts of one register have no bit in common: the higher one begins where the lower one has ended
abbrev pub Apart : Width → ℕ → Width → ℕ → Type 0
Apart w d v e = min (below_of w d * 2 ^ bits_of w) (below_of v e * 2 ^ bits_of v) ≤ max (below_of w d) (below_of v e)

abbrev Stays : ℕ → ℕ → ℕ → ℕ → ℕ → ℕ → Type 0
Stays old x p m q n = min (p * m) (q * n) ≤ max p q → put p m old x / q % n ≡ old / q % n

module _ (old x : ℕ) (l : old < 2 ^ 32) where
  other_part : (w : Width) (d : ℕ) (v : Width) (e : ℕ) → Apart w d v e → insert_of w d old x / below_of v e % 2 ^ bits_of v ≡ old / below_of v e % 2 ^ bits_of v
  unfolding insert_of
  other_part w d v e =
      kinds (λ p m. Stays old x p m (below_of v e) (2 ^ bits_of v))
      (kinds (Stays old x 256 256) (λ a. omega arith) (λ a. omega arith) (λ a. omega arith) (λ a. omega arith) (λ a. omega arith) v e)
      (kinds (Stays old x 1 256) (λ a. omega arith) (λ a. omega arith) (λ a. omega arith) (λ a. omega arith) (λ a. omega arith) v e)
      (kinds (Stays old x 1 65536) (λ a. omega arith) (λ a. omega arith) (λ a. omega arith) (λ a. omega arith) (λ a. omega arith) v e)
      (kinds (Stays old x 65536 65536) (λ a. omega arith) (λ a. omega arith) (λ a. omega arith) (λ a. omega arith) (λ a. omega arith) v e)
      (kinds (Stays old x 1 4294967296) (λ a. omega arith) (λ a. omega arith) (λ a. omega arith) (λ a. omega arith) (λ a. omega arith) v e)
      w
      d

-- eight registers of 32 bits, as the processor has
pub record Whole (r : Registers) : Type 0 where
  pub eight : length r.er ≡ 8
  pub words : (k : ℕ) → get_or r.er k 0 < 2 ^ 32

module _ (r : Registers) (whole : Whole r) (w : Width) (d x : ℕ) where
  pub part_new : part_of w (with_part w r d x) d ≡ x % 2 ^ bits_of w
  unfolding part_of with_part
  part_new = rw (get_or-set_same r.er (d % 8) (insert_of w d (get_or r.er (d % 8) 0) x) 0 (omega (arith, whole.eight))) (new_part w d (get_or r.er (d % 8) 0) x (whole.words (d % 8)))

  -- a part of another register
  pub part_other_register : (v : Width) (e : ℕ) → e % 8 ≢ d % 8 → part_of v (with_part w r d x) e ≡ part_of v r e
  unfolding part_of with_part
  part_other_register v e n = rw (get_or-set_other r.er (d % 8) (e % 8) (insert_of w d (get_or r.er (d % 8) 0) x) 0 n)

  -- another part of the same register
  pub part_apart : (v : Width) (e : ℕ) → d % 8 ≡ e % 8 → Apart w d v e → part_of v (with_part w r d x) e ≡ part_of v r e
  unfolding part_of with_part
  part_apart v e s a =
      rw (sym s, get_or-set_same r.er (d % 8) (insert_of w d (get_or r.er (d % 8) 0) x) 0 (omega (arith, whole.eight)))
      (other_part (get_or r.er (d % 8) 0) x (whole.words (d % 8)) w d v e a)

  pub pc_stays : (with_part w r d x).pc ≡ r.pc
  unfolding with_part
  pc_stays = refl

  pub condition_stays : (with_part w r d x).condition ≡ r.condition
  unfolding with_part
  condition_stays = refl

-- registers stay eight of 32 bits
insert_small : (w : Width) (d old x : ℕ) → old < 2 ^ 32 → insert_of w d old x < 2 ^ 32
unfolding insert_of
insert_small w d old x l = kinds (λ p m. put p m old x < 2 ^ 32) (omega arith) (omega arith) (omega arith) (omega arith) (omega arith) w d

word_at : (l : List ℕ) (i k x : ℕ) → length l ≡ 8 → i < 8 → x < 2 ^ 32 → get_or l k 0 < 2 ^ 32 → (b : Bool) → eqb k i ≡ b → get_or (set l i x) k 0 < 2 ^ 32
word_at l i k x e h s o true q = rw (eqb-true k i q, get_or-set_same l i x 0 (omega arith)) s
word_at l i k x e h s o false q = rw (get_or-set_other l i k x 0 (eqb-false k i q)) o

pub whole_part : (w : Width) (r : Registers) (d x : ℕ) → Whole r → Whole (with_part w r d x)
unfolding with_part
whole_part w r d x whole =
    let old = get_or r.er (d % 8) 0 in
    record {
      eight = simp length-set whole.eight;
      words = λ k. word_at r.er (d % 8) k (insert_of w d old x) whole.eight (omega arith) (insert_small w d old x (whole.words (d % 8))) (whole.words k) (eqb k (d % 8)) refl;
    }

-- PC is even and below 2 ^ 24 once it is set
pub pc_even : (r : Registers) (p : ℕ) → ((with_pc r p).pc % 2 ≡ 0) × ((with_pc r p).pc < 2 ^ 24)
pc_even r p = (omega arith, omega arith)

pub whole_condition : (r : Registers) (f : Condition) → Whole r → Whole (with_condition r f)
whole_condition r f whole = record { eight = whole.eight; words = whole.words }

pub whole_pc : (r : Registers) (p : ℕ) → Whole r → Whole (with_pc r p)
whole_pc r p whole = record { eight = whole.eight; words = whole.words }
