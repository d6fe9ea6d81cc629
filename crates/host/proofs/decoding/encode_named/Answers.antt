use mathlib.Core.Path.{refl}
use Rattle.host.specs.MirrorCodes.{named, unnamed}
use Rattle.host.proofs.decoding.encode_named.Goals as goal

pub returns-in-Some : goal.returns-in-Some
returns-in-Some c = rw c.in-Some.is (named c.encode.ensures)

pub returns-in-None : goal.returns-in-None
returns-in-None c = rw c.in-None.is (unnamed refl refl)
