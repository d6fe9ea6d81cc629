use mathlib.Core.Path.{sym, ◌∙◌}
use native.Mathlib.Omega.{arith}
use Rattle.codes.proofs.Laws.{bytes_of}
use Rattle.figure.proofs.Answered.{fit_good, good_fitting, figured_fit}
use Rattle.figure.proofs.Promise.{promised}
use Rattle.figure.proofs.figure.Goals as goal

pub returns : goal.returns
returns c = let l = c in
    let s = l.args in
    let bytes = bytes_of s.rom.now (λ k. omega (arith, c.type_inv.rom k)) in
    let fit = sym l.look.ensures ∙ l.in_ok-look.was in
    let held = rw (good_fitting (fit_good _ _ _ _ fit)) at l.fill-r.ensures in
    let p = promised s.k s.rom.now s.entry s.table.now c.told.result l.fill-r.new.table bytes
    (rw c.told.ensures (figured_fit s.k s.rom.now bytes s.entry s.table.now l.fill-r.new.table l.fill-r.result fit held.0 held.1)) in
    record { answer = p.0; exact = p.1.0; runs = p.1.1 }
