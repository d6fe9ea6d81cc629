use Rattle.std.proofs.Common.{◌∙◌, ap, ℕ, ◌+◌, ◌%◌, ◌^◌, arith, w32, ℤ, pos, ◌+ℤ◌, of_z}
use Rattle.std.proofs.lemmas.Int.{to_z-of_z}
use Rattle.registers.specs.Parts.{pc_of}
use Rattle.flow.specs.Targets.{address_of, target_of}
use Rattle.flow.proofs.Signed.{address_is}
use Rattle.flow.proofs.target.Goals as goal

pub returns : goal.returns
unfolding target_of
returns c =
    let d = c.displacement in
    let s = c in
    c.pc.ensures
    ∙ ap (λ (b : ℕ). pc_of ((s.args.next + b) % 2 ^ 32)) (c.cast_unsigned-by.ensures ∙ ap (λ (z : ℤ). of_z w32 z) (to_z-of_z w32 d.result (record { sfits = d.type_inv })))
    ∙ address_is s.args.next d.result (omega arith) d.ensures.1
    ∙ ap (λ (z : ℤ). pc_of (address_of (pos s.args.next +ℤ z))) d.ensures.0
