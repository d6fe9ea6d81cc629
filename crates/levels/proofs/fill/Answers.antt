use mathlib.Core.Path.{refl}
use native.Mathlib.Omega.{arith}
use lib.ListN.{length}
use Rattle.codes.proofs.Laws.{bytes_of}
use Rattle.listing.specs.Listing.{flow_at}
use Rattle.listing.proofs.Listed.{listing}
use Rattle.levels.proofs.Filled.{fitting_is, off, on, entry_row, filled}
use Rattle.levels.proofs.fill.Goals as goal

pub returns-then-not-fits : goal.returns-then-not-fits
returns-then-not-fits c = rw (off c.fits.ensures c.if-not-fits.true-raw) (refl, refl)

pub invariant_of-code : goal.invariant_of-code
invariant_of-code c = let f = fitting_is _ _ _ (on c.fits.ensures c.if-not-fits.false-raw) in
    record { bytes = λ k. omega (arith, c.type_inv.rom k); even = f.even; small = f.small }

pub path_cost-requires : goal.path_cost-requires
path_cost-requires c = let g = (fitting_is _ _ _ (on c.fits.ensures c.if-not-fits.false-raw)).lent in record { lent = (g, omega arith); ready = (λ h. absurd (omega arith)) }

pub unpack-requires : goal.unpack-requires
unpack-requires c = let g = (fitting_is _ _ _ (on c.fits.ensures c.if-not-fits.false-raw)).lent in
    record { room = omega (arith, g.room, c.path_cost.ensures.costed.same_length); levels = g.levels }

pub returns : goal.returns
returns c = let l = c in
    let s = l in
    let fit = on c.fits.ensures c.if-not-fits.false-raw in
    let f = fitting_is _ _ _ fit in
    let g = f.lent in
    let n = c.path_cost.ensures in
    let flow = flow_at s.args.k s.args.rom.now in
    let len = length s.args.rom.now in
    let L = listing s.args.k s.args.rom.now (bytes_of s.args.rom.now (λ k. omega (arith, l.shared_slice_known-1.given k))) f.even f.small in
    rw (fit, c.held-r.ensures) (entry_row flow len L (omega (arith, f.even)) n s.args.entry f.entry_even, filled flow len L (omega (arith, f.even)) n c.unpack.ensures)
