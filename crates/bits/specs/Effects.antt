-- What a bit instruction does with its bit (document 02, W4; manual 002, their pages of section 2.2).
use Rattle.std.specs.Prelude.{Bool, true, false, not, ◌&&◌, ◌||◌}
use Rattle.std.specs.Bool.{xor}
use Rattle.registers.specs.declared.Condition.{Condition}
use Rattle.codes.specs.declared.Take.{Take}
use Rattle.codes.specs.declared.Take.TheVariants.{Btst, Bor, Bior, Bxor, Bixor, Band, Biand, Bld, Bild}
use Rattle.codes.specs.declared.Give.{Give}
use Rattle.codes.specs.declared.Give.TheVariants.{Bset, Bnot, Bclr, Bst, Bist}

-- Z alone replaced, and C alone
abbrev pub with_z : Condition → Bool → Condition
with_z f z = record { i = f.i; ui = f.ui; h = f.h; u = f.u; n = f.n; z = z; v = f.v; c = f.c }

abbrev pub with_c : Condition → Bool → Condition
with_c f c = record { i = f.i; ui = f.ui; h = f.h; u = f.u; n = f.n; z = f.z; v = f.v; c = c }

-- the condition byte after a reader whose bit is v: BTST has the inverse of the bit in Z, the others join it or its inverse with C
unfoldable pub taken_of : Take → Bool → Condition → Condition
taken_of Btst v f = with_z f (not v)
taken_of Bor v f = with_c f (f.c || v)
taken_of Bior v f = with_c f (f.c || not v)
taken_of Bxor v f = with_c f (xor f.c v)
taken_of Bixor v f = with_c f (xor f.c (not v))
taken_of Band v f = with_c f (f.c && v)
taken_of Biand v f = with_c f (f.c && not v)
taken_of Bld v f = with_c f v
taken_of Bild v f = with_c f (not v)

-- the bit after a writer that found v, where C is c
unfoldable pub given_of : Give → Bool → Bool → Bool
given_of Bset v c = true
given_of Bnot v c = not v
given_of Bclr v c = false
given_of Bst v c = c
given_of Bist v c = not c
