use native.Mathlib.Omega.{arith}
use Rattle.codes.proofs.Laws.{bytes_of}
use Rattle.figure.proofs.Ways.{way_told}
use Rattle.figure.proofs.way.Goals as goal

pub returns-clause-longest : goal.returns-clause-longest
returns-clause-longest c = let s = c in way_told s.args.k s.args.rom.now (bytes_of s.args.rom.now (λ k. omega (arith, c.type_inv.rom k))) s.args.table.now s.args.place

pub returns-in_err-look-clause-longest : goal.returns-in_err-look-clause-longest
returns-in_err-look-clause-longest c = let s = c in way_told s.args.k s.args.rom.now (bytes_of s.args.rom.now (λ k. omega (arith, c.type_inv.rom k))) s.args.table.now s.args.place
