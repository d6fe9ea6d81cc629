-- Document 02, W6: "with each completed step the list of its data accesses in the order made". A longword is two entries; fetches are not listed; "a refused step
-- gives an empty list".
use Rattle.std.specs.Prelude.{ℕ, ◌+◌, ◌≡◌, Bool, true, false, ◌&&◌, List, [], ◌∷◌, leb, ltb, drop, Result, Ok, Err}
use Rattle.refusal.specs.declared.Refusal.{Refusal}
use Rattle.codes.specs.declared.Instruction.{Instruction}
use Rattle.decoder.specs.MirrorDecode.{decode_of}
use Rattle.registers.specs.declared.Registers.{Registers}
use Rattle.memory.specs.Access.{byte_at}
use Rattle.memory.specs.declared.Board.{Board}
use Rattle.memory.specs.declared.told.Access.{Access}
use Rattle.timing.specs.Made.{sum_of, base_of}
use Rattle.moves.specs.Made.{made_of}
use Rattle.step.specs.Step.{step_of}
use Rattle.watch.specs.declared.Watched.{Watched}

unfoldable pub listed : Result (Unit {0}) Refusal → List Access → List Access
listed (Ok tt) xs = xs
listed (Err f) xs = []

-- the accesses of an instruction, where its operands lie before the step
abbrev pub made_by : Result (Instruction × ℕ) Refusal → Registers → List Access
made_by (Ok (i, n)) r = made_of r i
made_by (Err f) r = []

unfoldable pub list_of : Board → List ℕ → List ℕ → Registers → List Access
list_of b rom ram r = listed (step_of b rom ram r).answer.outcome (made_by (decode_of r.pc (drop r.pc rom)) r)

-- "the states of a step must be shown to be its fetch and internal states and the sum over this list"
abbrev pub Summed : Board → List ℕ → Registers → Watched → Type 0
Summed b rom r q =
    (i : Instruction) (n : ℕ) → decode_of r.pc (drop r.pc rom) ≡ Ok (i, n) → q.answer.outcome ≡ Ok tt
    → q.answer.states ≡ base_of i + sum_of b.site (q.list.items)

-- whether an access reaches the byte at place p
abbrev pub reached : Access → ℕ → Bool
reached x p = leb x.place p && ltb p (x.place + x.bytes)

-- no write of the list reaches it
abbrev pub Spared : ℕ → List Access → Type 0
Spared p [] = Unit {0}
Spared p (x ∷ xs) = (x.write ≡ true → reached x p ≡ false) × Spared p xs

-- a byte of working memory that no write of the list reaches has not changed
abbrev pub Spares : Board → List ℕ → List ℕ → List Access → Type 0
Spares b ram ram' xs = (k : ℕ) → Spared (b.base + k) xs → byte_at ram' k ≡ byte_at ram k
