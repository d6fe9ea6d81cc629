use Prim.Native.Nat.{◌%◌, ◌^◌}
use mathlib.Core.Path.{◌≡◌}
use Rattle.products.specs.Products.{half_bits, mulxu_of}
use Rattle.products.proofs.Forms.{form, product}
use Rattle.products.proofs.mulxu.Goals as goal

pub overflow_mul-result : goal.overflow_mul-result
overflow_mul-result c =
    let s = c.args in
    let p : c.low_bits.result ≡ s.a % 2 ^ half_bits s.h = cc (form s.h).narrow in
    let q : c.low_bits-2.result ≡ s.b % 2 ^ half_bits s.h = cc (form s.h).narrow in
    rw (p, q) (record { fits = product s.h s.a s.b })

pub returns : goal.returns
unfolding mulxu_of
returns c = cc (form c.args.h).narrow
