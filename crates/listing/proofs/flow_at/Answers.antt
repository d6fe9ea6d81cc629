use Rattle.std.specs.Prelude.{Result, ℕ, Err}
use mathlib.Core.Path.{ap, ◌∙◌}
use borrow.Author.Tests.{le-leb, lt-leb}
use Rattle.codes.specs.declared.Instruction.{Instruction}
use Rattle.refusal.specs.declared.Refusal.{Refusal}
use Rattle.listing.specs.Listing.{found_flow, flow_at}
use Rattle.listing.proofs.Part.{part_found}
use Rattle.listing.proofs.flow_at.Goals as goal

pub returns-then-rom-at : goal.returns-then-rom-at
unfolding flow_at found_flow
returns-then-rom-at c = simp (le-leb _ _ c.if-rom-at.true)

pub returns-in-Ok : goal.returns-in-Ok
unfolding flow_at found_flow
returns-in-Ok c = let b = c in
    let a = b.args in
    simp (lt-leb _ _ b.if-rom-at.false)
    (c.found.ensures
    ∙ ap (λ (d : Result (Instruction × ℕ) Refusal). found_flow a.k a.p d) (part_found a.rom.now a.p b.begins.ensures c.in-Ok.is))

pub returns-in-Err-Cut : goal.returns-in-Err-Cut
unfolding flow_at found_flow
returns-in-Err-Cut c = let b = c in
    let a = b.args in
    simp (lt-leb _ _ b.if-rom-at.false)
    (ap (λ (d : Result (Instruction × ℕ) Refusal). found_flow a.k a.p d) (part_found a.rom.now a.p b.begins.ensures (c.in-Err-Cut.is ∙ ap Err c.in-Err-Cut.field-0-is)))

pub returns-in-Err-Unlisted : goal.returns-in-Err-Unlisted
unfolding flow_at found_flow
returns-in-Err-Unlisted c = let b = c in
    let a = b.args in
    simp (lt-leb _ _ b.if-rom-at.false)
    (ap (λ (f : Refusal). Err f) c.unheld.ensures
    ∙ ap (λ (d : Result (Instruction × ℕ) Refusal). found_flow a.k a.p d) (part_found a.rom.now a.p b.begins.ensures (c.in-Err-Unlisted.is ∙ ap Err c.in-Err-Unlisted.field-0-is)))
