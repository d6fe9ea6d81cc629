use borrow.Author.Tests.{lt-ltb, le-ltb}
use native.Mathlib.Omega.{arith}
use Rattle.codes.proofs.Laws.{bytes_of}
use Rattle.layout.specs.Board.{site_of}
use Rattle.figure.proofs.Ways.{way_told}
use Rattle.host.specs.Figures.{way_call}
use Rattle.host.proofs.figures.h8_way.Goals as goal

pub returns-then-answer-lt4 : goal.returns-then-answer-lt4
unfolding way_call
returns-then-answer-lt4 c = let s = c.args in record { told = rw (lt-ltb _ _ c.if-answer-lt4.true); longest = way_told (site_of s.board.now) s.rom.now (bytes_of s.rom.now (λ k. omega (arith, c.shared_slice_known-2-1.given k))) s.table.now s.place }

pub returns : goal.returns
unfolding way_call
returns c = record { told = rw (le-ltb _ _ c.if-answer-lt4.false, ← c.site_in-k.ensures, ← c.way-w.ensures.answer) c.tell_way.ensures; longest = rw (← c.site_in-k.ensures) c.way-w.ensures.longest }
