-- Document 01, "Numbers, flags and addresses": "Displacements are signed. A branch counts from the next instruction. Addresses are taken modulo
-- 2^24 .. PC's lowest bit is cleared whenever PC is set (house rule)." Displacements 002:1370, odd targets 002:963
use Rattle.std.specs.Prelude.{ℕ, ◌+◌, ◌-◌, ◌%◌, ℤ, pos, negsuc, ◌+ℤ◌}
use Rattle.arith.specs.Widths.{signed_of}
use Rattle.registers.specs.Parts.{pc_of}
use Rattle.codes.specs.declared.Reach.{Reach}
use Rattle.codes.specs.declared.Reach.TheVariants.{Near, Far}

abbrev pub displacement_of : Reach → ℤ
displacement_of (Near d) = signed_of 8 d
displacement_of (Far d) = signed_of 16 d

-- an integer modulo 2^24; `negsuc n` is -(n + 1)
abbrev pub address_of : ℤ → ℕ
address_of (pos n) = n % 16777216
address_of (negsuc n) = 16777215 - n % 16777216

-- the address of the next instruction, n bytes on
abbrev pub next_of : ℕ → ℕ → ℕ
next_of pc n = (pc + n) % 16777216

-- the target of a branch whose next instruction is at `next`
unfoldable pub target_of : ℕ → Reach → ℕ
target_of next reach = pc_of (address_of (pos next +ℤ displacement_of reach))
