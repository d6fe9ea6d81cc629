use Prim.Native.Nat.{◌<◌}
use mathlib.Core.Path.{◌≡◌, ◌∙◌}
use native.Mathlib.Omega.{arith}
use Rattle.host.proofs.Listed.{one_told}
use Rattle.host.proofs.stepping.put_list.Goals as goal

pub loop-i-init : goal.loop-i-init
loop-i-init c = rw c.put.ensures

pub loop-i-preserved : goal.loop-i-preserved
loop-i-preserved c =
    let h : c.loop-i.i < 4 = omega arith in
    rw (c.put_access.ensures, c.access_at.ensures) (one_told c.loop-i.answer c.as_slice-xs.result.now c.loop-i.i h ∙ c.loop-i.invariant)

pub returns : goal.returns
returns c =
    let e : c.loop-i.i ≡ 4 = omega arith in
    let value = c.as_slice-xs.ensures.value in
    rw (e, value) at c.loop-i.invariant
