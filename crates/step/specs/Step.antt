-- One step: what each instruction does to registers and memory, its states, and every refusal in document 01's order.
use Rattle.std.specs.Prelude.{ℕ, ◌%◌, ◌^◌, Bool, cond, ◌&&◌, List, eqb, ltb, length, drop, Result, Ok, Err}
use Rattle.arith.specs.declared.Width.{Width}
use Rattle.refusal.specs.declared.Refusal.{Refusal}
use Rattle.refusal.specs.declared.Refusal.TheVariants.{BadBoard, FetchOutside}
use Rattle.registers.specs.declared.Registers.{Registers}
use Rattle.registers.specs.Parts.{with_pc}
use Rattle.memory.specs.Board.{good_board}
use Rattle.memory.specs.declared.Board.{Board}
use Rattle.operate.specs.Operate.{stc_of, ldc_of, ccr_of, alu_of, inc_dec_of, adds_subs_of, decimal_of, shift_of, unary_of}
use Rattle.operate.specs.Results.{did}
use Rattle.multiply.specs.Multiply.{multiply_of, divide_of}
use Rattle.bitwork.specs.Bitwork.{takes_of, gives_of}
use Rattle.moves.specs.Made.{states_at}
use Rattle.moves.specs.Moves.{Stepped, stepped, load_of, store_of, push_of, popped_of}
use Rattle.flow.specs.Targets.{next_of}
use Rattle.decoder.specs.MirrorDecode.{decode_of}
use Rattle.codes.specs.States.{goes_of}
use Rattle.step.specs.Follow.{follow_of}
use Rattle.step.specs.declared.StepAnswer.{StepAnswer}
use Rattle.codes.specs.declared.Dir.{Dir}
use Rattle.codes.specs.declared.Dir.TheVariants.{Load, Store}
use Rattle.codes.specs.declared.Place.{Place}
use Rattle.codes.specs.declared.Instruction.{Instruction}
use Rattle.codes.specs.declared.Instruction.TheVariants.{Nop, Stc, LdcReg, Ccr, Alu, IncDec, AddsSubs, Decimal, Shift, Unary, Multiply, Divide, Takes, Gives, Move, Bcc, Jmp, Bsr, Jsr, Rts}

-- what an instruction does; `next` is the address of the next one, and PC is none of it
module _ (next : ℕ) (r : Registers) (b : Board) (rom ram : List ℕ) where
  unfoldable pub transfer_of : Dir → Width → Place → ℕ → Stepped
  transfer_of Load w p d = stepped (load_of w p d r b rom ram) ram
  transfer_of Store w p s = store_of w p s r b ram

  unfoldable pub effect_of : Instruction → Stepped
  effect_of Nop = stepped (did r) ram
  effect_of (Stc d) = stepped (did (stc_of d r)) ram
  effect_of (LdcReg s) = stepped (did (ldc_of s r)) ram
  effect_of (Ccr change v) = stepped (did (ccr_of change v r)) ram
  effect_of (Alu op w source d) = stepped (did (alu_of op w source d r)) ram
  effect_of (IncDec way w by d) = stepped (did (inc_dec_of way w by d r)) ram
  effect_of (AddsSubs way by e) = stepped (did (adds_subs_of way by e r)) ram
  effect_of (Decimal way d) = stepped (decimal_of way d r) ram
  effect_of (Shift turn w d) = stepped (did (shift_of turn w d r)) ram
  effect_of (Unary single w d) = stepped (did (unary_of single w d r)) ram
  effect_of (Multiply sign h s d) = stepped (did (multiply_of sign h s d r)) ram
  effect_of (Divide sign h s d) = stepped (divide_of sign h s d r) ram
  effect_of (Takes take index spot) = stepped (takes_of take index spot r b rom ram) ram
  effect_of (Gives give index spot) = gives_of give index spot r b rom ram
  effect_of (Move dir w p d) = transfer_of dir w p d
  effect_of (Bcc c reach) = stepped (did r) ram
  effect_of (Jmp target) = stepped (did r) ram
  effect_of (Bsr reach) = push_of next r b ram
  effect_of (Jsr target) = push_of next r b ram
  effect_of Rts = stepped (did (popped_of r)) ram

-- a step's answer, and working memory after it
pub record After : Type 0 where
  pub answer : StepAnswer
  pub mem : List ℕ

abbrev pub after : StepAnswer → List ℕ → After
after a m = record { answer = a; mem = m }

abbrev pub answered : Registers → ℕ → Result (Unit {0}) Refusal → StepAnswer
answered r n o = record { regs = r; states = n; outcome = o }

-- a refused step leaves the registers as they were and adds no states
abbrev pub stays : Registers → Refusal → StepAnswer
stays r f = answered r 0 (Err f)

-- the registers q after an instruction, with PC set to p
unfoldable pub finish_of : Result (Unit {0}) Refusal → Registers → Registers → ℕ → ℕ → StepAnswer
finish_of (Ok tt) r q p n = answered (with_pc q p) n (Ok tt)
finish_of (Err f) r q p n = stays r f

-- first where PC goes, so that 5 is looked for before 6; then what the instruction does
unfoldable pub carry_of : Result ℕ Refusal → Instruction → ℕ → Registers → Board → List ℕ → List ℕ → After
carry_of (Ok p) i next r b rom ram =
    let s = effect_of next r b rom ram i in
    after (finish_of s.effect.outcome r s.effect.regs p (states_at b.site r i)) s.mem
carry_of (Err f) i next r b rom ram = after (stays r f) ram

unfoldable pub obey_of : Instruction → ℕ → Registers → Board → List ℕ → List ℕ → After
obey_of i n r b rom ram =
    let next = next_of r.pc n in
    carry_of (follow_of r b rom ram (goes_of i) next) i next r b rom ram

unfoldable pub act_of : Result (Instruction × ℕ) Refusal → Registers → Board → List ℕ → List ℕ → After
act_of (Ok (i, n)) r b rom ram = obey_of i n r b rom ram
act_of (Err f) r b rom ram = after (stays r f) ram

-- a step on a right board from a PC that can be: 2, then 3 or 4, then the instruction
unfoldable pub fetch_of : Registers → Board → List ℕ → List ℕ → After
fetch_of r b rom ram =
    cond (ltb r.pc (length rom)) (act_of (decode_of r.pc (drop r.pc rom)) r b rom ram)
    (after (stays r (FetchOutside r.pc)) ram)

-- PC is even and below 2^24
abbrev pub good_pc : ℕ → Bool
good_pc pc = eqb (pc % 2) 0 && ltb pc (2 ^ 24)

-- a right board, and a PC that can be: else refusal 1
abbrev pub good_start : Board → List ℕ → List ℕ → Registers → Bool
good_start b rom ram r = good_board b (length rom) (length ram) && good_pc r.pc

unfoldable pub step_of : Board → List ℕ → List ℕ → Registers → After
step_of b rom ram r =
    cond (good_start b rom ram r) (fetch_of r b rom ram) (after (stays r BadBoard) ram)
