-- What the parts of the executor with memory hand on. Nothing here is to be believed.
use Rattle.std.specs.Prelude.{ℕ, ◌+◌, ◌*◌, ◌/◌, ◌%◌, ◌≡◌, false, cond, List, eqb, Result, Ok}
use Rattle.refusal.specs.declared.Refusal.{Refusal}
use Rattle.arith.specs.Logic.{exts_of}
use Rattle.arith.specs.Sums.{add_of}
use Rattle.arith.specs.declared.Width.{Width}
use Rattle.arith.specs.declared.Width.TheVariants.{Long}
use Rattle.registers.specs.declared.Condition.{Condition}
use Rattle.registers.specs.declared.Registers.{Registers}
use Rattle.registers.specs.Lent.{lent, part_in}
use Rattle.memory.specs.declared.Board.{Board}
use Rattle.site.specs.declared.Site.{Site}
use Rattle.timing.specs.Made.{made_at, sum_of}
use Rattle.moves.specs.Made.{where_of}
use Rattle.moves.specs.Moves.{Stepped, push_of}
use Rattle.flow.specs.Targets.{next_of}
use Rattle.codes.specs.Cycles.{touch, move_fetches, pause_states, stepping}
use Rattle.codes.specs.declared.Dir.{Dir}
use Rattle.codes.specs.declared.Dir.TheVariants.{Load, Store}
use Rattle.codes.specs.declared.Place.{Place}
use Rattle.codes.specs.declared.Place.TheVariants.{Step, Abs24}
use Rattle.codes.specs.declared.Instruction.{Instruction}
use Rattle.step.specs.Step.{After, after, finish_of, transfer_of}
use Rattle.turns.specs.MirrorTurn.{told_in, TurnsOn}
use Rattle.turns.specs.declared.Turn.{Turn}
use Rattle.transfer.specs.declared.moving.Aim.{Aim}

-- whatever the place and the length of the code: RTS and JMP @@aa:8, which ask neither
abbrev pub Anywhere : Instruction → List ℕ → List ℕ → Condition → Board → List ℕ → List ℕ → Turn → Type 0
Anywhere i er er' f b rom ram t = (pc n : ℕ) → TurnsOn (Ok (i, n)) er er' pc f b rom ram ram t

-- whatever read-only memory is: BSR, which reads none
abbrev pub AnyCode : Result (Instruction × ℕ) Refusal → List ℕ → List ℕ → ℕ → Condition → Board → List ℕ → List ℕ → Turn → Type 0
AnyCode d er er' pc f b ram ram' t = (rom : List ℕ) → TurnsOn d er er' pc f b rom ram ram' t

-- an effect and memory, with PC set to p
abbrev pub finished : Stepped → Registers → ℕ → ℕ → After
finished s r p n = after (finish_of s.effect.outcome r s.effect.regs p n) s.mem

-- what a push costs: ER7 is lowered before it
abbrev pub push_cost : Site → Registers → ℕ
push_cost k r = sum_of k (made_at Load Long (where_of r (touch Store Long (Step 7))))

-- the next address pushed, with PC set to `to`; n is the states without the push
abbrev pub Called : ℕ → ℕ → ℕ → List ℕ → List ℕ → Condition → Board → List ℕ → List ℕ → Turn → Type 0
Called next to n er er' f b ram ram' t =
    (pc : ℕ) → after (told_in er' pc t) ram' ≡ finished (push_of next (lent er pc f) b ram) (lent er pc f) to (n + push_cost b.site (lent er pc f))

-- MOV: the digit of the register, and above it the register of the address; m is 8 for a long, else 16
unfoldable pub low_of : ℕ → ℕ → ℕ
low_of m x = cond (eqb m 8) (x % 8) (x % 16)

unfoldable pub high_of : ℕ → ℕ → ℕ
high_of m x = cond (eqb m 8) (x / 8 % 8) (x / 16 % 8)

abbrev pub aim : ℕ → ℕ → ℕ → ℕ → Aim
aim a d p n = record { address = a; register = d; next = p; states = n }

abbrev pub displaced_of : ℕ → ℕ → ℕ
displaced_of e d = (add_of 32 e (exts_of 32 d).value false).value

-- by the variant: @ER, d:16, aa:8, aa:16, aa:24
unfoldable pub aim_in : ℕ → ℕ → ℕ → ℕ → ℕ → ℕ → List ℕ → Aim
aim_in k m x pc n s er =
    cond (eqb k 0) (aim (part_in Long er (high_of m x)) (low_of m x) (next_of pc n) s)
    (cond (eqb k 2) (aim (displaced_of (part_in Long er (high_of m (x / 65536))) (x % 65536)) (low_of m (x / 65536)) (next_of pc (n + 2)) (s + 2))
    (cond (eqb k 3) (aim (0xFFFF00 + x % 256) (low_of m (x / 256)) (next_of pc n) s)
    (cond (eqb k 4) (aim (exts_of 32 (x % 65536)).value (low_of m (x / 65536)) (next_of pc (n + 2)) (s + 2))
    (aim (x % 16777216) (low_of m (x / 16777216)) (next_of pc (n + 4)) (s + 4)))))

-- fetch and internal states of MOV
abbrev pub move_base : Width → Place → ℕ
move_base w p = 2 * move_fetches w p + pause_states (stepping p)

-- a part moved from or to the address of a
unfoldable pub moved_at : Dir → Width → Aim → Registers → Board → List ℕ → List ℕ → After
moved_at dir w a r b rom ram =
    finished (transfer_of a.next r b rom ram dir w (Abs24 a.address) a.register) r a.next
    (a.states + sum_of b.site (made_at Load w a.address))

abbrev pub Transfers : Dir → Width → Aim → List ℕ → List ℕ → Condition → Board → List ℕ → List ℕ → List ℕ → Turn → Type 0
Transfers dir w a er er' f b rom ram ram' t = (pc : ℕ) → after (told_in er' pc t) ram' ≡ moved_at dir w a (lent er pc f) b rom ram
