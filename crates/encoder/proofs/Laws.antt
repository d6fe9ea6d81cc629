-- Laws for callers.
use Rattle.std.specs.Prelude.{Result, Ok, Err}
use Prim.Native.Nat.{ℕ}
use mathlib.Core.Path.{◌≡◌, refl, sym, ap, ◌∙◌}
use mathlib.Core.List.{List, ◌++◌}
use native.Mathlib.Omega.{arith}
use lib.ListN.{drop}
use Rattle.refusal.specs.declared.Refusal.{Refusal}
use Rattle.encoder.specs.Names.{Instruction, Takes, Take, Band, Numbered, ByPart, Spot, NotInstruction, LentTooShort}
use Rattle.codes.specs.Code.{code_of}
use Rattle.codes.specs.Valid.{Valid}
use Rattle.codes.specs.Exact.{Encodes, written, not_instruction, too_short}

-- one answer only, and one content of the lent bytes, meets the promise of `encode`
pub encodes_one : {i : Instruction} {old new new' : List ℕ} {r r' : Result ℕ Refusal} → Encodes i old new r → Encodes i old new' r' → (r ≡ r') × (new ≡ new')
encodes_one {i} {old} (written v e h k) (written w f g l) =
    (ap Ok (e ∙ sym f), k ∙ ap (λ n. code_of i ++ drop n old) (e ∙ sym f) ∙ sym l)
encodes_one (written v e h k) (not_instruction n l) = absurd (n v)
encodes_one (written v e h k) (too_short w f g l) = absurd (omega arith)
encodes_one (not_instruction n k) (written v e h l) = absurd (n v)
encodes_one (not_instruction n k) (not_instruction m l) = (refl, k ∙ sym l)
encodes_one (not_instruction n k) (too_short w f g l) = absurd (n w)
encodes_one (too_short w f g l) (written v e h k) = absurd (omega arith)
encodes_one (too_short w f g l) (not_instruction n k) = absurd (n w)
encodes_one (too_short w f g l) (too_short v e h k) = (ap (λ n. Err (LentTooShort n)) (f ∙ sym e), l ∙ sym k)

-- what is not valid gets refusal 11
pub refused : {i : Instruction} {old new : List ℕ} {r : Result ℕ Refusal} → (Valid i → ⊥) → Encodes i old new r → r ≡ Err NotInstruction
refused n (written v e h k) = absurd (n v)
refused n (not_instruction m k) = refl
refused n (too_short v e h k) = absurd (n v)

-- so does a bit's number of 8, and BAND by a register's number
pub bit_8 : {take : Take} {spot : Spot} {old new : List ℕ} {r : Result ℕ Refusal} → Encodes (Takes take (Numbered 8) spot) old new r → r ≡ Err NotInstruction
bit_8 = refused (λ v. omega arith)

pub band_by_part : {d : ℕ} {spot : Spot} {old new : List ℕ} {r : Result ℕ Refusal} → Encodes (Takes Band (ByPart d) spot) old new r → r ≡ Err NotInstruction
band_by_part = refused (λ v. v.0.0)
