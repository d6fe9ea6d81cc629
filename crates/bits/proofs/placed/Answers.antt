use native.Mathlib.Omega.{arith}
use lib.Pow.{shl_exact}
use mathlib.Core.Path.{◌∙◌, ap}
use Prim.Native.Nat.{ℕ, ◌*◌, ◌%◌, ◌^◌, ◌≤◌}
use Rattle.arith.proofs.Once.{num_le}
use Rattle.bits.proofs.placed.Goals as goal

pub returns : goal.returns
returns c = let k = c.args.n % 8 in let l : c.from.result ≤ 1 = rw c.from.ensures (num_le c.args.v) in shl_exact 1 k 64 (omega arith) (omega arith) ∙ ap (λ (y : ℕ). y * 2 ^ k) c.from.ensures
