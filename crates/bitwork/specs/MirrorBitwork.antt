-- What the parts of the code say of the registers put together, whatever PC is. Nothing here is to be believed.
use Rattle.std.specs.Prelude.{ℕ, ◌≡◌, List}
use Rattle.registers.specs.declared.Condition.{Condition}
use Rattle.registers.specs.Lent.{lent}
use Rattle.operate.specs.MirrorLent.{Does}
use Rattle.codes.specs.declared.Take.{Take}
use Rattle.codes.specs.declared.Give.{Give}
use Rattle.codes.specs.declared.Index.{Index}
use Rattle.bitwork.specs.Bitwork.{number_of, took_of, gave_of}

abbrev pub Numbers : Index → List ℕ → ℕ → Type 0
Numbers index er n = (pc : ℕ) (f : Condition) → n ≡ number_of index (lent er pc f)

abbrev pub Took : Take → Index → ℕ → List ℕ → Condition → Condition → Type 0
Took take index x er f g = Does (took_of take index x) er er f g

abbrev pub Gave : Give → Index → ℕ → List ℕ → Condition → ℕ → Type 0
Gave give index x er f y = (pc : ℕ) → y ≡ gave_of give index x (lent er pc f)
