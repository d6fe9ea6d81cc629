-- Numbers as text.
use Rattle.std.specs.Prelude.{ℕ, zero, suc, ◌+◌, ◌-◌, ◌/◌, ◌%◌, Bool, false, cond, List, [], ◌∷◌, ◌++◌, ltb}
use Prim.Native.Char.{code}
use Rattle.text.specs.Lines.{ascii}

-- the hexadecimal digits from ten on
abbrev pub letter_of : Bool → ℕ → ℕ
letter_of upper x = cond upper (code "A" - 10 + x % 16) (code "a" - 10 + x % 16)

-- the last hexadecimal digit
unfoldable pub glyph_of : Bool → ℕ → ℕ
glyph_of upper n = cond (ltb (n % 16) 10) (code "0" + n % 16) (letter_of upper (n % 16))

-- the last k hexadecimal digits
abbrev pub hex_of : Bool → ℕ → ℕ → List ℕ
hex_of upper zero n = []
hex_of upper (suc k) n = hex_of upper k (n / 16) ++ (glyph_of upper n ∷ [])

-- an address: four digits, or six, or eight
unfoldable pub place_digits : ℕ → List ℕ
place_digits p = cond (ltb p 0x10000) (hex_of false 4 p) (cond (ltb p 0x1000000) (hex_of false 6 p) (hex_of false 8 p))

abbrev pub place_of : ℕ → List ℕ
place_of p = ascii "0x" ++ place_digits p

-- the decimal digits, at most k more than one, none of them a zero in front
unfoldable pub figures_of : ℕ → ℕ → List ℕ
figures_of zero n = (code "0" + n % 10) ∷ []
figures_of (suc k) n = cond (ltb n 10) ((code "0" + n % 10) ∷ []) (figures_of k (n / 10) ++ ((code "0" + n % 10) ∷ []))

-- twenty digits are enough for every number of 64 bits
abbrev pub decimal_of : ℕ → List ℕ
decimal_of n = figures_of 19 n

-- a displacement of 16 bits
abbrev pub negative_of : ℕ → List ℕ
negative_of d = ascii "-" ++ decimal_of (65536 - d)

unfoldable pub signed_of : ℕ → List ℕ
signed_of d = cond (ltb d 32768) (decimal_of d) (negative_of d)
