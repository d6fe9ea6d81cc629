-- The kinds of entries that touch no memory, and have many variants. Assumes nothing.
use Rattle.std.specs.Prelude.{Result}
use Prim.Native.Nat.{ℕ}
use mathlib.Core.Path.{◌≡◌, refl}
use mathlib.Core.Bool.{Bool, true, false, cond}
use mathlib.Core.List.{[]}
use lib.Dec.{eqb}
use Rattle.refusal.specs.declared.Refusal.{Refusal}
use Rattle.registers.specs.declared.Registers.{Registers}
use Rattle.codes.specs.Cycles.{touches_of}
use Rattle.codes.specs.declared.Instruction.{Instruction}
use Rattle.moves.specs.Made.{trail_of}
use Rattle.entry.specs.Entry.{counts, counted, turns, turned, long_turns, turned_long}
use Rattle.turns.specs.MirrorTurn.{touched_by}

record Quiet (i : Instruction) : Type 0 where
  none : touches_of i ≡ []

either : (t : Bool) (i j : Instruction) → touches_of i ≡ [] → Quiet j → Quiet (cond t i j)
either true i j h k = record { none = h }
either false i j h k = k

module _ (v d : ℕ) where
  counts_none : Quiet (counts v d)
  unfolding counts
  counts_none =
      either (eqb v 0) _ _ refl (either (eqb v 1) _ _ refl (either (eqb v 2) _ _ refl (either (eqb v 3) _ _ refl (either (eqb v 4) _ _ refl
      (either (eqb v 5) _ _ refl (either (eqb v 6) _ _ refl (either (eqb v 7) _ _ refl (either (eqb v 8) _ _ refl (either (eqb v 9) _ _ refl
      (either (eqb v 10) _ _ refl (either (eqb v 11) _ _ refl (either (eqb v 12) _ _ refl (either (eqb v 13) _ _ refl (either (eqb v 14) _ _ refl
      (record { none = refl })))))))))))))))

  turns_none : Quiet (turns v d)
  unfolding turns
  turns_none =
      either (eqb v 0) _ _ refl (either (eqb v 1) _ _ refl (either (eqb v 2) _ _ refl (either (eqb v 3) _ _ refl (either (eqb v 4) _ _ refl
      (either (eqb v 5) _ _ refl (either (eqb v 6) _ _ refl (either (eqb v 7) _ _ refl (either (eqb v 8) _ _ refl (either (eqb v 9) _ _ refl
      (either (eqb v 10) _ _ refl (either (eqb v 11) _ _ refl (either (eqb v 12) _ _ refl (either (eqb v 13) _ _ refl (either (eqb v 14) _ _ refl
      (record { none = refl })))))))))))))))

  long_none : Quiet (long_turns v d)
  unfolding long_turns
  long_none =
      either (eqb v 0) _ _ refl (either (eqb v 1) _ _ refl (either (eqb v 2) _ _ refl (either (eqb v 3) _ _ refl (either (eqb v 4) _ _ refl
      (either (eqb v 5) _ _ refl (either (eqb v 6) _ _ refl (either (eqb v 7) _ _ refl (either (eqb v 8) _ _ refl (either (eqb v 9) _ _ refl
      (either (eqb v 10) _ _ refl (either (eqb v 11) _ _ refl (either (eqb v 12) _ _ refl (record { none = refl })))))))))))))

-- the trail stays empty
module _ (r : Registers) (v x : ℕ) where
  abbrev Untouched : Result (Instruction × ℕ) Refusal → Type 0
  Untouched d = 0 ≡ trail_of r 0 (touched_by d)

  pub quiet_counted : Untouched (counted v x)
  unfolding counted
  quiet_counted = rw (counts_none v _).none

  pub quiet_turned : Untouched (turned v x)
  unfolding turned
  quiet_turned = rw (turns_none v _).none

  pub quiet_turned_long : Untouched (turned_long v x)
  unfolding turned_long
  quiet_turned_long = rw (long_none v _).none
