-- One turn as the code makes it, over the eight numbers and the count in which it keeps the addresses. Nothing here is to be believed.
use Rattle.std.specs.Prelude.{ℕ, ◌+◌, ◌-◌, ◌%◌, Bool, true, false, cond, ◌&&◌, List, ltb, eqb, length, set, get_or, drop, Option, None, Some, Result, Ok, Err}
use Rattle.refusal.specs.declared.Refusal.{Refusal}
use Rattle.codes.specs.declared.Instruction.{Instruction}
use Rattle.arith.specs.declared.Width.TheVariants.{Long}
use Rattle.registers.specs.declared.Registers.{Registers}
use Rattle.registers.specs.Parts.{part_of}
use Rattle.operate.specs.Operate.{carried_of}
use Rattle.memory.specs.Access.{inside, even_address, second_address, read_of}
use Rattle.memory.specs.declared.Board.{Board}
use Rattle.codes.specs.States.{goes_of}
use Rattle.codes.specs.declared.Way.TheVariants.{Down}
use Rattle.codes.specs.declared.Target.{Target}
use Rattle.codes.specs.declared.Target.TheVariants.{ByReg, Direct, Vector}
use Rattle.codes.specs.declared.Goes.{Goes}
use Rattle.codes.specs.declared.Goes.TheVariants.{Onward, Branches, Jumps, CallsNear, Calls, Returns}
use Rattle.flow.specs.Targets.{next_of}
use Rattle.decoder.specs.MirrorDecode.{decode_of}
use Rattle.step.specs.Step.{step_of}
use Rattle.step.specs.declared.StepAnswer.{StepAnswer}
use Rattle.routine.specs.declared.Ending.{Ending}
use Rattle.routine.specs.declared.Ending.TheVariants.{Halted, Returned, Ninth, Elsewhere}
use Rattle.routine.specs.declared.Kept.{Kept}
use Rattle.routine.specs.declared.Seen.{Seen}
use Rattle.routine.specs.declared.Turned.{Turned}

-- ---- what stands at PC

abbrev pub seen : Goes → ℕ → Seen
seen g next = record { goes = g; next = next }

unfoldable pub seen_in : Result (Instruction × ℕ) Refusal → ℕ → Seen
seen_in (Ok (i, n)) pc = seen (goes_of i) (next_of pc n)
seen_in (Err f) pc = seen Onward 0

unfoldable pub seen_at : List ℕ → ℕ → Seen
seen_at rom pc = seen_in (decode_of pc (drop pc rom)) pc

-- ---- whether a call there would complete, without making it

abbrev pub was_read : Result ℕ Refusal → Bool
was_read (Ok x) = true
was_read (Err f) = false

unfoldable pub aims : Target → Board → List ℕ → List ℕ → Bool
aims (ByReg e) b rom ram = true
aims (Direct a) b rom ram = true
aims (Vector a) b rom ram = was_read (read_of Long b rom ram a)

unfoldable pub room_at : ℕ → ℕ → ℕ → Bool
room_at base len a = inside base len (even_address a) 2 && inside base len (second_address a) 2

abbrev pub below_of : Registers → ℕ
below_of r = part_of Long (carried_of Down 4 7 r) 7

unfoldable pub completes_in : Goes → Registers → Board → List ℕ → List ℕ → Bool
completes_in Onward r b rom ram = false
completes_in (Branches c reach) r b rom ram = false
completes_in (Jumps target) r b rom ram = false
completes_in (CallsNear reach) r b rom ram = room_at b.base (length ram) (below_of r)
completes_in (Calls target) r b rom ram = aims target b rom ram && room_at b.base (length ram) (below_of r)
completes_in Returns r b rom ram = false

unfoldable pub ninth_in : Goes → ℕ → Registers → Board → List ℕ → List ℕ → Bool
ninth_in g count r b rom ram = cond (ltb count 8) false (completes_in g r b rom ram)

-- ---- the turn

-- an address pushed; the one pushed last; without it
abbrev pub pushed_on : Kept → ℕ → Kept
pushed_on kept k = record { addresses = set kept.addresses (kept.count % 8) k; count = kept.count + 1 }

abbrev pub last_of : Kept → ℕ
last_of kept = get_or kept.addresses ((kept.count - 1) % 8) 0

abbrev pub taken_off : Kept → Kept
taken_off kept = record { addresses = set kept.addresses ((kept.count - 1) % 8) 0; count = kept.count - 1 }

-- a step that is not taken
abbrev pub stays : Registers → Kept → Ending → Turned
stays r kept why = record { regs = r; kept = kept; steps = 0; states = 0; ends = Some why }

abbrev pub made : StepAnswer → Kept → Option Ending → Turned
made a kept ends = record { regs = a.regs; kept = kept; steps = 1; states = a.states; ends = ends }

abbrev pub pushed : ℕ → Kept → StepAnswer → Turned
pushed next kept a = made a (pushed_on kept next) None

unfoldable pub returned_to : Registers → Kept → StepAnswer → Turned
returned_to r kept a =
    cond (eqb kept.count 0) (made a kept (Some Returned))
    (cond (eqb a.regs.pc (last_of kept)) (made a (taken_off kept) None) (stays r kept Elsewhere))

unfoldable pub followed : Goes → ℕ → Registers → Kept → StepAnswer → Turned
followed Onward next r kept a = made a kept None
followed (Branches c reach) next r kept a = made a kept None
followed (Jumps target) next r kept a = made a kept None
followed (CallsNear reach) next r kept a = pushed next kept a
followed (Calls target) next r kept a = pushed next kept a
followed Returns next r kept a = returned_to r kept a

unfoldable pub turned_by : Result (Unit {0}) Refusal → Goes → ℕ → Registers → Kept → StepAnswer → Turned
turned_by (Ok tt) g next r kept a = followed g next r kept a
turned_by (Err f) g next r kept a = stays r kept (Halted f)

pub record Left : Type 0 where
  pub turned : Turned
  pub mem : List ℕ

abbrev pub left : Turned → List ℕ → Left
left t m = record { turned = t; mem = m }

unfoldable pub turn_in : Board → List ℕ → List ℕ → Registers → Kept → Left
turn_in b rom ram r kept =
    let d = seen_at rom r.pc in
    let a = step_of b rom ram r in
    cond (ninth_in d.goes kept.count r b rom ram) (left (stays r kept Ninth) ram)
    (left (turned_by a.answer.outcome d.goes d.next r kept a.answer) a.mem)
