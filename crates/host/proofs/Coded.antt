-- What the code finds is what `Codes` says.
use Rattle.std.specs.Prelude.{Result, Ok, Err, Option, Some, None}
use mathlib.Core.Path.{◌≡◌, refl, sym, ap, ◌∙◌, subst}
use mathlib.Core.Bool.{Bool, true, false, cond}
use mathlib.Core.List.{List, []}
use Prim.Native.Nat.{ℕ, ◌%◌, ◌≤◌, ◌<◌}
use native.Mathlib.Omega.{arith}
use borrow.Author.Tests.{le-ltb, ltb-false}
use lib.Dec.{ltb}
use lib.ListN.{length, take}
use Rattle.refusal.specs.declared.Refusal.{Refusal}
use Rattle.codes.specs.Code.{length_of}
use Rattle.codes.specs.Valid.{Valid}
use Rattle.codes.specs.Exact.{Decodes, accepted, cut_short, unheld, Encodes, written, not_instruction, too_short}
use Rattle.codes.proofs.Laws.{code_sized}
use Rattle.layout.specs.Names.{Instruction, NotInstruction, LentTooShort}
use Rattle.layout.specs.Rows.{row_of, seven, numbers_of}
use Rattle.layout.specs.MirrorRows.{named_of}
use Rattle.layout.specs.MirrorLent.{row_in}
use Rattle.layout.proofs.Named.{named_valid, named_is, first_seven, seven_one}
use Rattle.host.specs.Answers.{Noted, noted, refused_with, tell}
use Rattle.host.specs.Codes.{Decoding, decoding, decode_left, DecodeCall, fields_short, decoded, Encoding, encoding, with_out, Spells, encode_told, EncodeCall, unspelt, encoded}
use Rattle.host.specs.MirrorCodes.{put_of, named_in, EncodesNamed, named, unnamed, tell_of}
use Rattle.host.proofs.Told.{fill}

fits : (i : Instruction) {n : ℕ} → Valid i → n ≡ length_of i → n % 0x100000000 ≡ length_of i
fits i v e = let s = code_sized i v in omega (arith, e, s.most)

put_is : (fields answer : List ℕ) {s : List ℕ} {d : Result (Instruction × ℕ) Refusal} → Decodes 0 s d → put_of fields answer d ≡ decode_left fields answer d
unfolding put_of decode_left numbers_of
put_is fields answer (accepted {i} v e b) = rw (fits i v e)
put_is fields answer (cut_short i v b) = refl
put_is fields answer (unheld u) = refl

module _ {s fields answer new : List ℕ} {n : ℕ} (h : 3 ≤ length answer) where
  pub decode_short : length fields < 9 → noted n new ≡ tell (refused_with (LentTooShort 9) []) answer → DecodeCall s fields answer (decoding n fields new)
  unfolding decode_left
  decode_short k e = subst (λ (x : Decoding). DecodeCall s fields answer x) (sym (fill e refl)) (fields_short h k)

  pub decode_call : {after : List ℕ} {d : Result (Instruction × ℕ) Refusal} → 9 ≤ length fields → Decodes 0 s d → decoding n after new ≡ put_of fields answer d
      → DecodeCall s fields answer (decoding n after new)
  decode_call k d e = subst (λ (x : Decoding). DecodeCall s fields answer x) (sym (e ∙ put_is fields answer d)) (decoded h k d)

-- ---- h8_encode

module _ (fields : List ℕ) where
  spelled_by : {i : Instruction} (t : Bool) → ltb (length fields) 9 ≡ t → cond t None (named_of (row_in fields)) ≡ Some i
      → (9 ≤ length fields) × (take 7 fields ≡ seven (row_of i))
  spelled_by true b h = let z : ◌≡◌ {A = ℕ} 0 1 = cc in absurd (omega arith)
  spelled_by {i} false b h =
      let l = ltb-false (length fields) 9 b in
      (l, first_seven fields (omega arith) ∙ ap seven (named_is (row_in fields) i h))

  spelled : {i : Instruction} → named_in fields ≡ Some i → (9 ≤ length fields) × (take 7 fields ≡ seven (row_of i))
  unfolding named_in
  spelled h = spelled_by (ltb (length fields) 9) refl h

  -- fields that spell a valid instruction name it
  pub spells_names : {i : Instruction} → Spells fields i → named_in fields ≡ Some i
  unfolding named_in
  spells_names {i} s =
      rw (le-ltb (length fields) 9 s.whole)
      (named_valid (row_in fields) i s.valid (seven_one (row_in fields) (row_of i) (sym (first_seven fields (omega (arith, s.whole))) ∙ s.same)))

tell_is : (answer : List ℕ) {i : Instruction} {old new : List ℕ} {e : Result ℕ Refusal} → Encodes i old new e → tell_of e answer ≡ encode_told e answer
unfolding tell_of encode_told
tell_is answer {i} (written {n} v e l k) = let h : n % 0x100000000 ≡ n = fits i v e ∙ sym e in rw h
tell_is answer (not_instruction n k) = refl
tell_is answer (too_short v e l k) = refl

module _ (fields out answer new now : List ℕ) (n : ℕ) (h : 4 ≤ length answer) where
  put_beside : (after : List ℕ) (e : Result ℕ Refusal) → new ≡ after → noted n now ≡ encode_told e answer → EncodeCall fields out answer (with_out after (encode_told e answer))
      → EncodeCall fields out answer (encoding n new now)
  put_beside after e p q c =
      let a = ap (λ (m : Noted). m.returned) q in
      let b = ap (λ (m : Noted). m.answer) q in
      let same : encoding n new now ≡ with_out after (encode_told e answer) = cc in
      subst (λ (x : Encoding). EncodeCall fields out answer x) (sym same) c

  absent : ((i : Instruction) → Spells fields i → ⊥) → new ≡ out → noted n now ≡ encode_told (Err NotInstruction) answer → EncodeCall fields out answer (encoding n new now)
  absent none p q = put_beside out (Err NotInstruction) p q (unspelt h none)

  by_code : {i : Instruction} {e : Result ℕ Refusal} → named_in fields ≡ Some i → Encodes i out new e → noted n now ≡ encode_told e answer → EncodeCall fields out answer (encoding n new now)
  by_code {i} m (written v e l k) q =
      let s = spelled fields m in
      put_beside new (Ok _) refl q (encoded h (record { valid = v; whole = s.0; same = s.1 }) (written v e l k))
  by_code {i} m (too_short v e l k) q =
      let s = spelled fields m in
      put_beside new (Err (LentTooShort _)) refl q (encoded h (record { valid = v; whole = s.0; same = s.1 }) (too_short v e l k))
  by_code {i} m (not_instruction wrong k) q =
      absent (λ j s. let d = spells_names fields s in let same : j ≡ i = cc in wrong (subst Valid same s.valid)) k q

  by_name : (m : Option Instruction) {e : Result ℕ Refusal} → named_in fields ≡ m → EncodesNamed out new e m → noted n now ≡ tell_of e answer → EncodeCall fields out answer (encoding n new now)
  unfolding tell_of encode_told
  by_name (Some i) m (named c) q = by_code m c (q ∙ tell_is answer c)
  by_name None m (unnamed e k) q =
      absent (λ i s. let d = spells_names fields s in let z : ◌≡◌ {A = ℕ} 0 1 = cc in omega arith) k (q ∙ rw e refl)

pub encode_call : {fields out answer new now : List ℕ} {n : ℕ} {e : Result ℕ Refusal} {m : Option Instruction} → 4 ≤ length answer → m ≡ named_in fields → EncodesNamed out new e m
    → noted n now ≡ tell_of e answer → EncodeCall fields out answer (encoding n new now)
encode_call {fields} {out} {answer} {new} {now} {n} {e} {m} h p c q = by_name fields out answer new now n h m (sym p) c q
