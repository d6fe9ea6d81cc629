-- What a run keeps of the entries that it has made. Nothing here is to be believed.
use Rattle.std.specs.Prelude.{ℕ, ◌+◌, ◌/◌, ◌%◌, ◌≡◌, List, get_or, drop, Result, Ok, Err}
use Rattle.codes.specs.declared.Instruction.{Instruction}
use Rattle.decoder.specs.MirrorDecode.{decode_of}
use Rattle.decoder.specs.declared.whole.Fault.{Fault}
use Rattle.decoder.specs.declared.whole.Fault.TheVariants.{Cut, Unlisted}
use Rattle.entry.specs.Entry.{meaning_of, pack_of, unheld_entry, cut_entry}
use Rattle.left.specs.Left.{group_in, left_out}

abbrev pub entry_of : List ℕ → Result (Instruction × ℕ) Fault → ℕ
entry_of s (Ok (i, n)) = pack_of i
entry_of s (Err Cut) = cut_entry
entry_of s (Err Unlisted) = unheld_entry (group_in left_out s)

-- an entry stands for what the decoder finds at the place
abbrev pub Means : List ℕ → ℕ → ℕ → Type 0
Means rom at e = meaning_of at e ≡ decode_of at (drop at rom)

-- a line with the tag of a place has that place's entry
pub record Keeps (rom lines : List ℕ) : Type 0 where
  pub holds : (at : ℕ) → at % 2 ≡ 0 → get_or lines (at / 2 % 256) 0 / 17592186044416 ≡ at / 512 + 1 → Means rom at (get_or lines (at / 2 % 256) 0 % 17592186044416)
