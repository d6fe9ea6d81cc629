use mathlib.Core.Path.{sym, subst, ◌∙◌, ap}
use native.Mathlib.Omega.{arith}
use Rattle.codes.specs.Exact.{Decodes}
use Rattle.codes.proofs.Laws.{bytes_of}
use Rattle.decoder.specs.MirrorDecode.{placed_of}
use Rattle.decoder.proofs.Laws.{exact}
use Rattle.decoder.proofs.decode_at.Goals as goal

pub returns : goal.returns
returns c = let a = c.args in
    let s = a.bytes.now in
    let e = c.placed.ensures ∙ ap (placed_of a.place s) c.begins.ensures in record {
      exact = subst (λ r. Decodes a.place s r) (sym e) (exact a.place s (bytes_of s (λ k. omega (
        arith,
        c.shared_slice_known-1.given k,
      ))));
      mirror = e;
    }
