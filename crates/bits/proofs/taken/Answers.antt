use mathlib.Core.Bool.{xor}
use Rattle.bits.specs.Effects.{taken_of}
use Rattle.bits.proofs.taken.Goals as goal

pub returns-in-Btst : goal.returns-in-Btst
unfolding taken_of xor
returns-in-Btst c = rw (c.with_z.ensures, c.in-Btst.is)

pub returns-in-Bor : goal.returns-in-Bor
unfolding taken_of xor
returns-in-Bor c = rw (c.with_c.ensures, c.in-Bor.is)

pub returns-in-Bior : goal.returns-in-Bior
unfolding taken_of xor
returns-in-Bior c = rw (c.with_c-in-Bior.ensures, c.in-Bior.is)

pub returns-in-Bxor : goal.returns-in-Bxor
unfolding taken_of xor
returns-in-Bxor c = rw (c.with_c-in-Bxor.ensures, c.in-Bxor.is)

pub returns-in-Bixor : goal.returns-in-Bixor
unfolding taken_of xor
returns-in-Bixor c = rw (c.with_c-in-Bixor.ensures, c.in-Bixor.is)

pub returns-in-Band : goal.returns-in-Band
unfolding taken_of xor
returns-in-Band c = rw (c.with_c-in-Band.ensures, c.in-Band.is)

pub returns-in-Biand : goal.returns-in-Biand
unfolding taken_of xor
returns-in-Biand c = rw (c.with_c-in-Biand.ensures, c.in-Biand.is)

pub returns-in-Bld : goal.returns-in-Bld
unfolding taken_of xor
returns-in-Bld c = rw (c.with_c-in-Bld.ensures, c.in-Bld.is)

pub returns-in-Bild : goal.returns-in-Bild
unfolding taken_of xor
returns-in-Bild c = rw (c.with_c-in-Bild.ensures, c.in-Bild.is)
