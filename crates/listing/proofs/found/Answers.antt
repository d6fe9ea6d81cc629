use Rattle.std.specs.Prelude.{Ok, Result}
use mathlib.Core.Path.{◌≡◌, refl, ap}
use mathlib.Core.Logic.{⊎_elim}
use mathlib.Core.List.{List, [], ◌∷◌}
use Prim.Native.Nat.{ℕ}
use types.Run.{OneOf, miss}
use denote.Enum.Declared.{tag_of}
use Rattle.codes.specs.contracts.Instruction.{the_type}
use Rattle.codes.specs.declared.Instruction.{Instruction}
use Rattle.codes.specs.declared.Instruction.TheVariants.{Nop, Stc, LdcReg, Ccr, Alu, IncDec, AddsSubs, Decimal, Shift, Unary, Multiply, Divide, Takes, Gives, Move, Bcc, Jmp, Bsr, Jsr, Rts}
use Rattle.flow.specs.Targets.{next_of}
use Rattle.site.specs.declared.Site.{Site}
use Rattle.timing.specs.Made.{base_of, most_of}
use Rattle.refusal.specs.declared.Refusal.{Refusal}
use Rattle.paths.specs.declared.Flow.{Flow}
use Rattle.paths.specs.declared.Flow.TheVariants.{Next}
use Rattle.listing.specs.Listing.{found_flow, goes_flow}
use Rattle.listing.proofs.Counted.{goes_none, goes_move, goes_read, goes_written, goes_branch, goes_jump, goes_near, goes_call}
use Rattle.listing.proofs.found.Goals as goal

-- of the instructions that the last arm is for
abbrev twos : List ℕ
twos = 0 ∷ 1 ∷ 2 ∷ 3 ∷ 5 ∷ 6 ∷ 7 ∷ 8 ∷ 9 ∷ []

two : (k : Site) (p n : ℕ) {next : ℕ} {r : Result Flow Refusal} (i : Instruction) → OneOf twos (tag_of the_type i) → next ≡ next_of p n → r ≡ Ok (Next next 2) → r ≡ found_flow k p (Ok (i, n))
unfolding found_flow goes_flow most_of base_of
two k p n Nop h e g = simp (g, e)
two k p n (Stc r) h e g = simp (g, e)
two k p n (LdcReg r) h e g = simp (g, e)
two k p n (Ccr change v) h e g = simp (g, e)
two k p n (Alu op w source d) h e g = absurd (miss twos _ tt h)
two k p n (IncDec way w by r) h e g = simp (g, e)
two k p n (AddsSubs way by d) h e g = simp (g, e)
two k p n (Decimal way r) h e g = simp (g, e)
two k p n (Shift turn w r) h e g = simp (g, e)
two k p n (Unary single w r) h e g = simp (g, e)
two k p n (Multiply sign half s d) h e g = absurd (miss twos _ tt h)
two k p n (Divide sign half s d) h e g = absurd (miss twos _ tt h)
two k p n (Takes take index spot) h e g = absurd (miss twos _ tt h)
two k p n (Gives give index spot) h e g = absurd (miss twos _ tt h)
two k p n (Move dir w place r) h e g = absurd (miss twos _ tt h)
two k p n (Bcc c reach) h e g = absurd (miss twos _ tt h)
two k p n (Jmp target) h e g = absurd (miss twos _ tt h)
two k p n (Bsr reach) h e g = absurd (miss twos _ tt h)
two k p n (Jsr target) h e g = absurd (miss twos _ tt h)
two k p n Rts h e g = absurd (miss twos _ tt h)

pub returns-in-Alu : goal.returns-in-Alu
returns-in-Alu c = let l = c in
    let a = l.args in
    goes_none a.k a.p a.n l.in-Alu.is refl refl c.alu_states.ensures l.next-next.ensures (ap Ok c.onward.ensures)

pub returns-in-Multiply : goal.returns-in-Multiply
returns-in-Multiply c = let l = c in
    let a = l.args in
    ⊎_elim
    (λ h. goes_none a.k a.p a.n h.2 refl refl c.product_states.ensures l.next-next.ensures (ap Ok c.onward-in-Multiply.ensures))
    (λ h. goes_none a.k a.p a.n h.2 refl refl c.product_states.ensures l.next-next.ensures (ap Ok c.onward-in-Multiply.ensures))
    l.in-Multiply.is

pub returns-in-Takes : goal.returns-in-Takes
returns-in-Takes c = let l = c in
    let a = l.args in
    goes_read a.k a.p a.n l.in-Takes.is c.read_bit.ensures l.next-next.ensures (ap Ok c.onward-in-Takes.ensures)

pub returns-in-Gives : goal.returns-in-Gives
returns-in-Gives c = let l = c in
    let a = l.args in
    goes_written a.k a.p a.n l.in-Gives.is c.written_bit.ensures l.next-next.ensures (ap Ok c.onward-in-Gives.ensures)

pub returns-in-Move : goal.returns-in-Move
returns-in-Move c = let l = c in
    let a = l.args in
    goes_move a.k a.p a.n l.in-Move.is c.moved.ensures l.next-next.ensures (ap Ok c.onward-in-Move.ensures)

pub returns-in-Bcc : goal.returns-in-Bcc
returns-in-Bcc c = let l = c in
    let a = l.args in
    goes_branch a.k a.p a.n l.in-Bcc.is l.next-next.ensures c.target.ensures c.near_or_far.ensures c.branch-c.ensures

pub returns-in-Jmp : goal.returns-in-Jmp
returns-in-Jmp c = let a = c.args in goes_jump a.k a.p a.n c.in-Jmp.is c.jump.ensures

pub returns-in-Bsr : goal.returns-in-Bsr
returns-in-Bsr c = let l = c in
    let a = l.args in
    goes_near a.k a.p a.n l.in-Bsr.is l.next-next.ensures c.target-in-Bsr.ensures c.near_or_far-in-Bsr.ensures c.pushed.ensures.cost

pub returns-in-Jsr : goal.returns-in-Jsr
returns-in-Jsr c = let l = c in
    let a = l.args in
    goes_call a.k a.p a.n l.in-Jsr.is l.next-next.ensures c.pushed-in-Jsr.ensures.cost c.call.ensures

pub returns-in-Rts : goal.returns-in-Rts
unfolding found_flow goes_flow
returns-in-Rts c = rw c.in-Rts.is (ap Ok c.returns.ensures)

pub returns-in_default : goal.returns-in_default
returns-in_default c = let a = c.args in two a.k a.p a.n a.i c.in_default.in_default-own.keys12 c.next-next.ensures (ap Ok c.onward-in_default.ensures)
