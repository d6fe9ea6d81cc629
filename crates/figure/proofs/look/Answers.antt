use native.Mathlib.Omega.{arith}
use lib.ListN.{length}
use Rattle.levels.proofs.Filled.{on}
use Rattle.figure.proofs.Answered.{small}
use Rattle.figure.proofs.look.Goals as goal

pub overflow_cast-result : goal.overflow_cast-result
overflow_cast-result c = let l = c in
    let a = l.args in
    omega (arith, small a.k (length a.rom.now) (on l.could_carry.ensures l.if-not-could_carry.false-raw))
