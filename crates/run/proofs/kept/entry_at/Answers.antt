use native.Mathlib.Omega.{arith}
use lib.ListN.{drop}
use Rattle.codes.specs.Exact.{Bytes}
use Rattle.codes.proofs.Laws.{bytes_of, bytes_drop, rest_of}
use Rattle.run.proofs.Lines.{entry_means}
use Rattle.run.proofs.kept.entry_at.Goals as goal

pub returns : goal.returns
returns c = let a = c.args in
    let s = drop a.at a.rom.now in
    let bytes : Bytes s = bytes_drop a.at a.rom.now (bytes_of a.rom.now (λ k. omega (arith, c.shared_slice_known-1.given k))) in
    rw (c.entry_of.ensures, c.begins.ensures, rest_of a.at a.rom.now) (entry_means a.at s bytes)
