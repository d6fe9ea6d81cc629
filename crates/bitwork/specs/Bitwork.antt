-- The bit instructions in registers and memory (document 02, W4; manual 002, their pages of section 2.2). PC is none of theirs.
use Rattle.std.specs.Prelude.{ℕ, ◌%◌, List, Result, Ok, Err}
use Rattle.refusal.specs.declared.Refusal.{Refusal}
use Rattle.arith.specs.declared.Width.TheVariants.{Byte}
use Rattle.registers.specs.declared.Registers.{Registers}
use Rattle.registers.specs.Parts.{part_of, with_part, with_condition}
use Rattle.memory.specs.Access.{read_of, write_of}
use Rattle.memory.specs.declared.Board.{Board}
use Rattle.operate.specs.Results.{Effect, did, refused}
use Rattle.moves.specs.Moves.{Stepped, stepped, address_of, stored_of}
use Rattle.bits.specs.Bits.{bit_of, with_bit}
use Rattle.bits.specs.Effects.{taken_of, given_of}
use Rattle.codes.specs.declared.Take.{Take}
use Rattle.codes.specs.declared.Give.{Give}
use Rattle.codes.specs.declared.Index.{Index}
use Rattle.codes.specs.declared.Index.TheVariants.{Numbered, ByPart}
use Rattle.codes.specs.declared.Spot.{Spot}
use Rattle.codes.specs.declared.Spot.TheVariants.{InPart, AtEr, AtAbs}
use Rattle.codes.specs.declared.Place.TheVariants.{At, Abs8}

-- a bit's number: in the code, or the low three bits of a byte register (002:1168), before anything changes
unfoldable pub number_of : Index → Registers → ℕ
number_of (Numbered n) r = n % 8
number_of (ByPart s) r = part_of Byte r s % 8

-- a reader, where its bit is in the byte x
unfoldable pub took_of : Take → Index → ℕ → Registers → Registers
took_of take index x r = with_condition r (taken_of take (bit_of (number_of index r) x) r.condition)

-- the byte x as a writer leaves it; no flag changes
unfoldable pub gave_of : Give → Index → ℕ → Registers → ℕ
gave_of give index x r =
    let n = number_of index r in
    with_bit n x (given_of give (bit_of n x) r.condition.c)

-- in memory, by what the read of the byte found
unfoldable pub took_from : Result ℕ Refusal → Take → Index → Registers → Effect
took_from (Ok x) take index r = did (took_of take index x r)
took_from (Err f) take index r = refused r f

unfoldable pub takes_at : Take → Index → ℕ → Registers → Board → List ℕ → List ℕ → Effect
takes_at take index a r b rom ram = took_from (read_of Byte b rom ram a) take index r

-- a writer reads its byte first, so that 5 is looked for before 6
unfoldable pub gave_to : Result ℕ Refusal → Give → Index → ℕ → Registers → Board → List ℕ → Stepped
gave_to (Ok x) give index a r b ram =
    let m = write_of Byte b ram a (gave_of give index x r) in
    stepped (stored_of m.put r r) m.mem
gave_to (Err f) give index a r b ram = stepped (refused r f) ram

unfoldable pub gives_at : Give → Index → ℕ → Registers → Board → List ℕ → List ℕ → Stepped
gives_at give index a r b rom ram = gave_to (read_of Byte b rom ram a) give index a r b ram

-- BTST to BILD, and BSET to BIST
unfoldable pub takes_of : Take → Index → Spot → Registers → Board → List ℕ → List ℕ → Effect
takes_of take index (InPart d) r b rom ram = did (took_of take index (part_of Byte r d) r)
takes_of take index (AtEr e) r b rom ram = takes_at take index (address_of (At e) r) r b rom ram
takes_of take index (AtAbs a) r b rom ram = takes_at take index (address_of (Abs8 a) r) r b rom ram

unfoldable pub gives_of : Give → Index → Spot → Registers → Board → List ℕ → List ℕ → Stepped
gives_of give index (InPart d) r b rom ram = stepped (did (with_part Byte r d (gave_of give index (part_of Byte r d) r))) ram
gives_of give index (AtEr e) r b rom ram = gives_at give index (address_of (At e) r) r b rom ram
gives_of give index (AtAbs a) r b rom ram = gives_at give index (address_of (Abs8 a) r) r b rom ram
