use Prim.Native.Nat.{◌+◌}
use native.Mathlib.Omega.{arith}
use lib.ListN.{get_or}
use Rattle.run.proofs.Strays.{turned}
use Rattle.run.proofs.beside.other_length.Goals as goal

-- both are bytes
pub returns : goal.returns
returns c =
    let a = c.args in
    let low = c.shared_slice_known-3-1.given a.i in
    let high = c.shared_slice_known-2-1.given (a.i + 1) in
    rw (c.longer_by.ensures, c.longer_by-a.ensures) (turned (get_or a.w.now a.i 0) (get_or a.w.now (a.i + 1) 0) (omega (arith, low)) (omega (arith, high)))
