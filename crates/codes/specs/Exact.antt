-- What decoding and encoding answer, in terms of the code list alone. Document 01, "Codes": "Given bytes are accepted if some code of the set
-- begins them, cut short if they are a proper beginning of one (the empty string too), and unknown otherwise." Document 02, W2: what is otherwise is 15, a code
-- that the set leaves out, or 3. "Acceptance and refusal 4 over our own set stay and come first."
use Rattle.std.specs.Prelude.{ℕ, ◌≤◌, ◌<◌, ◌≡◌, List, [], ◌∷◌, ◌++◌, length, drop, Result, Ok, Err}
use Rattle.refusal.specs.declared.Refusal.{Refusal}
use Rattle.left.specs.Left.{group_in, left_out}
use Rattle.left.specs.Unheld.{unheld_of}
use Rattle.codes.specs.Names.{Instruction, CutShort, NotInstruction, LentTooShort}
use Rattle.codes.specs.Code.{code_of, length_of}
use Rattle.codes.specs.Valid.{Valid}

-- a list of bytes
abbrev pub Bytes : List ℕ → Type 0
Bytes [] = Unit {0}
Bytes (x ∷ s) = (x < 256) × Bytes s

-- c begins s
abbrev pub Begins : List ℕ → List ℕ → Type 0
Begins c s = (rest : List ℕ) × (s ≡ c ++ rest)

-- s is a proper beginning of c
abbrev pub CutOf : List ℕ → List ℕ → Type 0
CutOf s c = (x : ℕ) × (rest : List ℕ) × (c ≡ s ++ (x ∷ rest))

-- What the bytes s at a place hold. (`decode` alone gives place 0.)
pub data Decodes (place : ℕ) (s : List ℕ) : Result (Instruction × ℕ) Refusal → Type 0 where
  accepted : {i : Instruction} {n : ℕ} → Valid i → n ≡ length_of i → Begins (code_of i) s → Decodes place s (Ok (i, n))
  cut_short : (i : Instruction) → Valid i → CutOf s (code_of i) → Decodes place s (Err (CutShort place))
  unheld : ((i : Instruction) → Valid i → (Begins (code_of i) s → ⊥) × (CutOf s (code_of i) → ⊥)) → Decodes place s (Err (unheld_of place (group_in left_out s)))

-- What encoding an instruction into lent bytes answers, and how it leaves them: its code, with the bytes past it as they were; or refusal 11, a
-- field out of range; or refusal 13 with the needed length. On a refusal nothing changes.
pub data Encodes (i : Instruction) (old new : List ℕ) : Result ℕ Refusal → Type 0 where
  written : {n : ℕ} → Valid i → n ≡ length_of i → n ≤ length old → new ≡ code_of i ++ drop n old → Encodes i old new (Ok n)
  not_instruction : (Valid i → ⊥) → new ≡ old → Encodes i old new (Err NotInstruction)
  too_short : {n : ℕ} → Valid i → n ≡ length_of i → length old < n → new ≡ old → Encodes i old new (Err (LentTooShort n))
