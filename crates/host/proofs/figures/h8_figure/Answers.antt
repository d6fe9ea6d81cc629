use Rattle.host.specs.Figures.{answer_short}
use native.Mathlib.Omega.{arith}
use Rattle.host.proofs.Told.{figure_call}
use Rattle.host.proofs.Figured.{figure_exactly, figure_kept}
use Rattle.host.proofs.figures.h8_figure.Goals as goal

pub returns-then-answer-lt4 : goal.returns-then-answer-lt4
returns-then-answer-lt4 c = record { told = answer_short c.if-answer-lt4.true; exact = (λ h e. absurd (omega arith)); runs = (λ zero. absurd (omega arith)) }

pub returns : goal.returns
returns c = let f = c in
    let s = f.args in
    let k = f.site_in-k.ensures in
    let told = c.tell_figure.ensures in
    let v = f.figure-v.result in
    let p = f.figure-v.ensures in record { told = figure_call k f.if-answer-lt4.false p.answer told; exact = figure_exactly s.answer.now s.board.now s.rom.now s.entry k v told s.table.now p.exact; runs = figure_kept s.answer.now s.board.now s.rom.now s.entry k v told p.runs }
