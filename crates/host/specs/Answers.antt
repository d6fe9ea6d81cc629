-- host/h8.h, "ANSWERS": each function returns the number of a refusal, or 0, and writes it first into its lent answer.
use Rattle.std.specs.Prelude.{ℕ, List, [], ◌∷◌, get_or}
use Rattle.refusal.specs.declared.Refusal.{Refusal}
use Rattle.refusal.specs.Refusals.{number_of, place_of, group_of}
use Rattle.layout.specs.Lent.{overwrite}

-- what is returned, and the lent answer afterwards
pub record Noted : Type 0 where
  pub returned : ℕ
  pub answer : List ℕ

abbrev pub noted : ℕ → List ℕ → Noted
noted n a = record { returned = n; answer = a }

-- every answer begins number, place, group
abbrev pub completed : List ℕ → List ℕ
completed more = 0 ∷ 0 ∷ 0 ∷ more

abbrev pub refused_with : Refusal → List ℕ → List ℕ
refused_with f more = number_of f ∷ place_of f ∷ group_of f ∷ more

-- the first number is returned, too; numbers past those of the answer stay as they were
unfoldable pub tell : List ℕ → List ℕ → Noted
tell xs answer = noted (get_or xs 0 0) (overwrite xs answer)

-- a refusal: [number, place, group, 0]
unfoldable pub refuse : Refusal → List ℕ → Noted
refuse f answer = tell (refused_with f (0 ∷ [])) answer
