-- What the laws of proofs/Honest.antt say of a step's list besides the definitions of Watch; no contract does.
use Rattle.std.specs.Prelude.{ℕ, ◌+◌, ◌≡◌, Bool, true, false, ◌||◌, List, [], ◌∷◌, length}
use Rattle.refusal.specs.declared.Refusal.{Refusal}
use Rattle.refusal.specs.declared.Refusal.TheVariants.{ReadOutside, WriteOutside}
use Rattle.memory.specs.Access.{inside, byte_at}
use Rattle.memory.specs.declared.Board.{Board}
use Rattle.memory.specs.declared.told.Access.{Access}
use Rattle.watch.specs.Watch.{reached}

module _ (b : Board) (rom ram : List ℕ) where
  -- a read lies inside in either memory, a write in working memory
  abbrev pub lies_as : Bool → ℕ → ℕ → Bool
  lies_as false p n = inside 0 (length rom) p n || inside b.base (length ram) p n
  lies_as true p n = inside b.base (length ram) p n

  abbrev pub lies : Access → Bool
  lies x = lies_as x.write x.place x.bytes

  pub data AllLie : List Access → Type 0 where
    none : AllLie []
    more : {x : Access} {xs : List Access} → lies x ≡ true → AllLie xs → AllLie (x ∷ xs)

  -- the first of them that does not
  pub data FirstOut : List Access → Access → Type 0 where
    here : {x : Access} {xs : List Access} → lies x ≡ false → FirstOut (x ∷ xs) x
    there : {x y : Access} {xs : List Access} → lies x ≡ true → FirstOut xs y → FirstOut (x ∷ xs) y

-- the refusal that names an access: 5 or 6
abbrev pub outside_as : Bool → ℕ → Refusal
outside_as false p = ReadOutside p
outside_as true p = WriteOutside p

abbrev pub outside_of : Access → Refusal
outside_of x = outside_as x.write x.place

-- a read of the list reaches the byte at place p
pub data ReadAt (p : ℕ) : List Access → Type 0 where
  at_first : {x : Access} {xs : List Access} → x.write ≡ false → reached x p ≡ true → ReadAt p (x ∷ xs)
  later : {x : Access} {xs : List Access} → ReadAt p xs → ReadAt p (x ∷ xs)

-- two working memories of one length that are alike where a read of the list reaches
pub record Alike (b : Board) (ram ram' : List ℕ) (xs : List Access) : Type 0 where
  pub long : length ram' ≡ length ram
  pub same : (k : ℕ) → ReadAt (b.base + k) xs → byte_at ram' k ≡ byte_at ram k
