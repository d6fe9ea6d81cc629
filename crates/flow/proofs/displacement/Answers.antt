use Rattle.std.proofs.Common.{◌≡◌, ◌∙◌, arith, w8, w16, w32}
use Rattle.std.proofs.lemmas.Int.{to_z-of_z}
use Rattle.std.specs.Int.{cast_signed}
use Rattle.flow.proofs.Signed.{near_is, far_is}
use Rattle.flow.proofs.displacement.Goals as goal

pub returns-in-Near : goal.returns-in-Near
returns-in-Near c =
    let e : c.from.result ≡ cast_signed w8 c.in-Near.d = c.from.ensures ∙ to_z-of_z w8 c.cast_signed.result (record { sfits = c.cast_signed.type_inv }) ∙ c.cast_signed.ensures in
    rw (to_z-of_z w32 c.from.result (record { sfits = c.from.type_inv }), e, c.in-Near.is) (near_is c.in-Near.d (omega arith))

pub returns-in-Far : goal.returns-in-Far
returns-in-Far c =
    let e : c.from-in-Far.result ≡ cast_signed w16 c.in-Far.d = c.from-in-Far.ensures ∙ to_z-of_z w16 c.cast_signed-in-Far.result (record { sfits = c.cast_signed-in-Far.type_inv }) ∙ c.cast_signed-in-Far.ensures in
    rw (to_z-of_z w32 c.from-in-Far.result (record { sfits = c.from-in-Far.type_inv }), e, c.in-Far.is) (far_is c.in-Far.d (omega arith))
