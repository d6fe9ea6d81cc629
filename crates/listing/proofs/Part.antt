-- The bytes from a place to the end, as the code takes them, and what they begin with.
-- Assumes nothing.
use mathlib.Core.Path.{◌≡◌, sym, ap, ◌∙◌}
use mathlib.Core.List.{List}
use Prim.Native.Nat.{ℕ, ◌-◌}
use native.Mathlib.Nat.{le_refl}
use lib.ListN.{length, take, drop, length-drop}
use lib.Seq.{take_all}
use Rattle.std.specs.Prelude.{Result}
use Rattle.codes.specs.declared.Instruction.{Instruction}
use Rattle.decoder.specs.declared.whole.Fault.{Fault}
use Rattle.decoder.specs.MirrorDecode.{found_of, placed_of, decode_of}
use Rattle.listing.specs.Listing.{decoded_at}

pub part_decoded : (rom : List ℕ) (p : ℕ) → decode_of p (take (length rom - p) (drop p rom)) ≡ decoded_at rom p
unfolding decoded_at
part_decoded rom p = ap (λ (s : List ℕ). decode_of p s) (take_all (length rom - p) (drop p rom) (simp length-drop (le_refl _)))

-- where the decoder has found r, which is f
pub part_found : (rom : List ℕ) (p : ℕ) {r f : Result (Instruction × ℕ) Fault} → r ≡ found_of (take (length rom - p) (drop p rom)) → r ≡ f → placed_of p (take (length rom - p) (drop p rom)) f ≡ decoded_at rom p
part_found rom p e g = ap (placed_of p (take (length rom - p) (drop p rom))) (sym g ∙ e) ∙ part_decoded rom p
