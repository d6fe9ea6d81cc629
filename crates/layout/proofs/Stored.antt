-- Numbers stored one after the other replace the first numbers of a lent array.
use mathlib.Core.Path.{◌≡◌, ◌∙◌}
use mathlib.Core.List.{List}
use Prim.Native.Nat.{ℕ, ◌≤◌}
use native.Mathlib.Nat.{zero-add}
use native.Mathlib.Omega.{arith}
use lib.ListN.{length}
use lib.Seq.{sets, sets-eq}
use Rattle.registers.specs.declared.Registers.{Registers}
use Rattle.layout.specs.declared.rows.Row.{Row}
use Rattle.layout.specs.Lent.{overwrite}
use Rattle.layout.specs.Rows.{nine}
use Rattle.layout.specs.Registers.{registers_length, ten_of}

pub stored : (xs l : List ℕ) → length xs ≤ length l → sets l 0 xs ≡ overwrite xs l
unfolding overwrite
stored xs l h = sets-eq xs l 0 (omega arith) ∙ rw zero-add

pub nine_stored : (f : Row) (n s : ℕ) (l after : List ℕ) → 9 ≤ length l → after ≡ sets l 0 (nine f n s) → after ≡ overwrite (nine f n s) l
nine_stored f n s l after h e = e ∙ stored (nine f n s) l h

pub ten_stored : (r : Registers) (l after : List ℕ) → registers_length ≤ length l → after ≡ sets l 0 (ten_of r) → after ≡ overwrite (ten_of r) l
unfolding ten_of
ten_stored r l after h e = e ∙ stored (ten_of r) l h
