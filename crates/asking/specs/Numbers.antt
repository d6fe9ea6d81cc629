-- A number as it is asked for: decimal, or hexadecimal after 0x; below 10^18, or 2^60.
use Rattle.std.specs.Prelude.{ℕ, ◌+◌, ◌-◌, ◌*◌, ◌^◌, Bool, true, false, cond, ◌&&◌, ◌||◌, List, ltb, leb, eqb, length, get_or, drop, fold, Option, Some, None, Result, Ok, Err}
use Prim.Native.Char.{code}
use Rattle.asking.specs.declared.numbers.NumberError.{NumberError}
use Rattle.asking.specs.declared.numbers.NumberError.TheVariants.{NotNumber, TooLarge}

-- a digit's value
unfoldable pub digit_of : ℕ → Option ℕ
digit_of b =
    cond (leb (code "0") b && leb b (code "9")) (Some (b - code "0"))
    (cond (leb (code "A") b && leb b (code "F")) (Some (b - code "A" + 10))
    (cond (leb (code "a") b && leb b (code "f")) (Some (b - code "a" + 10)) None))

-- a number v below `most` with the digit d of the base behind it
unfoldable pub behind : ℕ → ℕ → ℕ → ℕ → Result ℕ NumberError
behind base most v d = cond (leb base d) (Err NotNumber) (cond (ltb v most) (Ok (v * base + d)) (Err TooLarge))

unfoldable pub grown_of : Bool → ℕ → ℕ → Result ℕ NumberError
grown_of hex v d = cond hex (behind 16 (2 ^ 56) v d) (behind 10 (10 ^ 17) v d)

-- a digit more; what is no number stays none, and what has become too large stays so while digits follow
abbrev pub digit_more : Bool → Result ℕ NumberError → Option ℕ → Result ℕ NumberError
digit_more hex n None = Err NotNumber
digit_more hex (Ok v) (Some d) = grown_of hex v d
digit_more hex (Err TooLarge) (Some d) = Err TooLarge
digit_more hex (Err NotNumber) (Some d) = Err NotNumber

abbrev pub more_of : Bool → Result ℕ NumberError → ℕ → Result ℕ NumberError
more_of hex n b = digit_more hex n (digit_of b)

unfoldable pub whole_of : Bool → List ℕ → Result ℕ NumberError
whole_of hex s = cond (eqb (length s) 0) (Err NotNumber) (fold (more_of hex) (Ok 0) s)

-- it begins with 0x or 0X
abbrev pub hexed : List ℕ → Bool
hexed s = eqb (get_or s 0 0) (code "0") && (eqb (get_or s 1 0) (code "x") || eqb (get_or s 1 0) (code "X"))

unfoldable pub number_of : List ℕ → Result ℕ NumberError
number_of s = cond (hexed s) (whole_of true (drop 2 s)) (whole_of false s)
