-- host/h8.h, h8_decode and h8_encode: what they return and leave in the lent arrays.
use Rattle.std.specs.Prelude.{ℕ, ◌≤◌, ◌<◌, ◌≡◌, List, [], ◌∷◌, length, take, Result, Ok, Err}
use Rattle.refusal.specs.declared.Refusal.{Refusal}
use Rattle.codes.specs.Valid.{Valid}
use Rattle.codes.specs.Exact.{Decodes, Encodes}
use Rattle.layout.specs.Names.{Instruction, NotInstruction, LentTooShort}
use Rattle.layout.specs.Rows.{row_of, seven, numbers_of}
use Rattle.layout.specs.Lent.{overwrite}
use Rattle.host.specs.Answers.{Noted, completed, refused_with, tell, refuse}

-- ---- h8_decode

-- what is returned, and the fields and the answer afterwards
pub record Decoding : Type 0 where
  pub returned : ℕ
  pub fields : List ℕ
  pub answer : List ℕ

abbrev pub decoding : ℕ → List ℕ → List ℕ → Decoding
decoding n l a = record { returned = n; fields = l; answer = a }

abbrev pub with_fields : List ℕ → Noted → Decoding
with_fields fields n = decoding n.returned fields n.answer

-- [0, 0, 0] with the instruction's nine numbers, or a refusal: [number, place, group]
unfoldable pub decode_left : List ℕ → List ℕ → Result (Instruction × ℕ) Refusal → Decoding
decode_left fields answer (Ok (i, n)) = with_fields (overwrite (numbers_of i) fields) (tell (completed []) answer)
decode_left fields answer (Err f) = with_fields fields (tell (refused_with f []) answer)

-- 13 for the answer; 13 for the fields; else what the bytes hold by the code list (`Decodes`): 0, 4, 15 or 3
pub data DecodeCall (bytes fields answer : List ℕ) : Decoding → Type 0 where
  untold : length answer < 3 → DecodeCall bytes fields answer (decoding 13 fields answer)
  fields_short : 3 ≤ length answer → length fields < 9 → DecodeCall bytes fields answer (decode_left fields answer (Err (LentTooShort 9)))
  decoded : {d : Result (Instruction × ℕ) Refusal} → 3 ≤ length answer → 9 ≤ length fields → Decodes 0 bytes d → DecodeCall bytes fields answer (decode_left fields answer d)

-- ---- h8_encode

pub record Encoding : Type 0 where
  pub returned : ℕ
  pub out : List ℕ
  pub answer : List ℕ

abbrev pub encoding : ℕ → List ℕ → List ℕ → Encoding
encoding n o a = record { returned = n; out = o; answer = a }

abbrev pub with_out : List ℕ → Noted → Encoding
with_out out n = encoding n.returned out n.answer

-- lent fields spell an instruction: the first seven are its numbers; the last two are not looked at, but stand there
pub record Spells (fields : List ℕ) (i : Instruction) : Type 0 where
  pub valid : Valid i
  pub whole : 9 ≤ length fields
  pub same : take 7 fields ≡ seven (row_of i)

-- the answer: [0, 0, 0, bytes written], or a refusal
unfoldable pub encode_told : Result ℕ Refusal → List ℕ → Noted
encode_told (Ok n) answer = tell (completed (n ∷ [])) answer
encode_told (Err f) answer = refuse f answer

-- 13 for the answer; 11 where the fields spell no instruction; else what encoding that instruction promises (`Encodes`): 0 or 13
pub data EncodeCall (fields out answer : List ℕ) : Encoding → Type 0 where
  answer_short : length answer < 4 → EncodeCall fields out answer (encoding 13 out answer)
  unspelt : 4 ≤ length answer → ((i : Instruction) → Spells fields i → ⊥)
      → EncodeCall fields out answer (with_out out (encode_told (Err NotInstruction) answer))
  encoded : {i : Instruction} {new : List ℕ} {e : Result ℕ Refusal} → 4 ≤ length answer → Spells fields i → Encodes i out new e
      → EncodeCall fields out answer (with_out new (encode_told e answer))
