-- The same as the code finds it. Nothing to believe: `proofs/Coded.antt` shows that it is what `Codes` says.
use Rattle.std.specs.Prelude.{ℕ, ◌%◌, ◌≡◌, cond, List, [], ◌∷◌, ltb, length, Result, Ok, Err, Option, Some, None}
use Rattle.refusal.specs.declared.Refusal.{Refusal}
use Rattle.codes.specs.Exact.{Encodes}
use Rattle.codes.specs.States.{states_of}
use Rattle.layout.specs.Names.{Instruction, NotInstruction}
use Rattle.layout.specs.Rows.{row_of, nine}
use Rattle.layout.specs.MirrorRows.{named_of}
use Rattle.layout.specs.MirrorLent.{row_in}
use Rattle.layout.specs.Lent.{overwrite}
use Rattle.host.specs.Answers.{Noted, completed, refused_with, tell, refuse}
use Rattle.host.specs.Codes.{Decoding, with_fields}

unfoldable pub put_of : List ℕ → List ℕ → Result (Instruction × ℕ) Refusal → Decoding
put_of fields answer (Ok (i, n)) = with_fields (overwrite (nine (row_of i) (n % 0x100000000) (states_of i)) fields) (tell (completed []) answer)
put_of fields answer (Err f) = with_fields fields (tell (refused_with f []) answer)

unfoldable pub named_in : List ℕ → Option Instruction
named_in fields = cond (ltb (length fields) 9) None (named_of (row_in fields))

pub data EncodesNamed (old new : List ℕ) (e : Result ℕ Refusal) : Option Instruction → Type 0 where
  named : {i : Instruction} → Encodes i old new e → EncodesNamed old new e (Some i)
  unnamed : e ≡ Err NotInstruction → new ≡ old → EncodesNamed old new e None

unfoldable pub tell_of : Result ℕ Refusal → List ℕ → Noted
tell_of (Ok n) answer = tell (completed (n % 0x100000000 ∷ [])) answer
tell_of (Err f) answer = refuse f answer
