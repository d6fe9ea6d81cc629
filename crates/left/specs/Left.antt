-- THE CODES THAT THE SET LEAVES OUT: the lines of section 2.4 of document 002 (3885-4186) that are not in the code list, in the groups of document 01:
-- "3 MOV with displacement d:24; 4 LDC and STC with memory; 5 EEPMOV; 6 TRAPA, RTE and SLEEP; 7 MOVFPE and MOVTPE". Groups 1 and 2 are held.
-- Behind each row its line there and on its page of section 2.2; the damaged lines of 2.4 are read from the page, and STC.W CCR,@-ERd, which neither
-- has, from document 000.
use Rattle.std.specs.Prelude.{ℕ, ◌/◌, ◌%◌, Bool, true, cond, ◌&&◌, List, [], ◌∷◌, leb}

-- a byte of a code: its upper digit from and to, its lower digit from and to
pub record Pattern : Type 0 where
  pub up0 : ℕ
  pub up1 : ℕ
  pub low0 : ℕ
  pub low1 : ℕ

abbrev pub digits : ℕ → ℕ → ℕ → ℕ → Pattern
digits a b c d = record { up0 = a; up1 = b; low0 = c; low1 = d }

-- that byte; any byte; a digit and r (0 to F); a digit and e (0 to 7); e and 0; 8+e and 0; t (0 to 3) and 0
abbrev pub is : ℕ → Pattern
is x = digits (x / 16) (x / 16) (x % 16) (x % 16)

abbrev pub any : Pattern
any = digits 0x0 0xF 0x0 0xF

infix 90 ◌·r
abbrev pub ◌·r : ℕ → Pattern
x ·r = digits x x 0x0 0xF

infix 90 ◌·e
abbrev pub ◌·e : ℕ → Pattern
x ·e = digits x x 0x0 0x7

abbrev pub e0 : Pattern
e0 = digits 0x0 0x7 0x0 0x0

abbrev pub 8e0 : Pattern
8e0 = digits 0x8 0xF 0x0 0x0

abbrev pub t0 : Pattern
t0 = digits 0x0 0x3 0x0 0x0

-- d:16 and aa:16; d:24 and aa:24 behind a byte 00 (002:844)
abbrev pub any16 : List Pattern
any16 = any ∷ any ∷ []

abbrev pub any24 : List Pattern
any24 = is 0x00 ∷ any ∷ any ∷ any ∷ []

abbrev pub fits : Pattern → ℕ → Bool
fits p x = leb p.up0 (x / 16) && leb (x / 16) p.up1 && leb p.low0 (x % 16) && leb (x % 16) p.low1

-- bytes begin with a code or are a beginning of it: they agree with it as far as both go
abbrev pub agrees : List Pattern → List ℕ → Bool
agrees [] s = true
agrees (p ∷ c) [] = true
agrees (p ∷ c) (x ∷ s) = fits p x && agrees c s

pub record Row : Type 0 where
  pub group : ℕ
  pub code : List Pattern

abbrev pub row : ℕ → List Pattern → Row
row g c = record { group = g; code = c }

-- the group of the first row that agrees, and 0 where none does. The rows rise by their groups, so "where bytes fit two groups the lower number is meant"
-- (`least`, proofs/Least)
unfoldable pub group_in : List Row → List ℕ → ℕ
group_in [] s = 0
group_in (x ∷ rows) s = cond (agrees x.code s) x.group (group_in rows s)

abbrev pub left_out : List Row
left_out =
    row 3 (is 0x78 ∷ e0 ∷ is 0x6A ∷ 0x2 ·r ∷ any24)  -- MOV.B @(d:24,ERs),Rd 4056, 2393
    ∷ row 3 (is 0x78 ∷ e0 ∷ is 0x6A ∷ 0xA ·r ∷ any24)  -- MOV.B Rs,@(d:24,ERd) 4063, 2485
    ∷ row 3 (is 0x78 ∷ e0 ∷ is 0x6B ∷ 0x2 ·r ∷ any24)  -- MOV.W @(d:24,ERs),Rd 4073, 2428
    ∷ row 3 (is 0x78 ∷ e0 ∷ is 0x6B ∷ 0xA ·r ∷ any24)  -- MOV.W Rs,@(d:24,ERd) 4084, 2512
    ∷ row 3 (is 0x01 ∷ is 0x00 ∷ is 0x78 ∷ e0 ∷ is 0x6B ∷ 0x2 ·e ∷ any24)  -- MOV.L @(d:24,ERs),ERd 4092, 2457
    ∷ row 3 (is 0x01 ∷ is 0x00 ∷ is 0x78 ∷ 8e0 ∷ is 0x6B ∷ 0xA ·e ∷ any24)  -- MOV.L ERs,@(d:24,ERd) 4098, 2540
    ∷ row 4 (is 0x01 ∷ is 0x40 ∷ is 0x69 ∷ e0 ∷ [])  -- LDC.W @ERs,CCR 4045, 2309
    ∷ row 4 (is 0x01 ∷ is 0x40 ∷ is 0x6F ∷ e0 ∷ any16)  -- LDC.W @(d:16,ERs),CCR 4046, 2310
    ∷ row 4 (is 0x01 ∷ is 0x40 ∷ is 0x78 ∷ e0 ∷ is 0x6B ∷ is 0x20 ∷ any24)  -- LDC.W @(d:24,ERs),CCR 4047, 2311
    ∷ row 4 (is 0x01 ∷ is 0x40 ∷ is 0x6D ∷ e0 ∷ [])  -- LDC.W @ERs+,CCR 4048, 2312
    ∷ row 4 (is 0x01 ∷ is 0x40 ∷ is 0x6B ∷ is 0x00 ∷ any16)  -- LDC.W @aa:16,CCR 4050, 2314
    ∷ row 4 (is 0x01 ∷ is 0x40 ∷ is 0x6B ∷ is 0x20 ∷ any24)  -- LDC.W @aa:24,CCR 4051, 2315
    ∷ row 4 (is 0x01 ∷ is 0x40 ∷ is 0x69 ∷ 8e0 ∷ [])  -- STC.W CCR,@ERd 4158, 3360
    ∷ row 4 (is 0x01 ∷ is 0x40 ∷ is 0x6F ∷ 8e0 ∷ any16)  -- STC.W CCR,@(d:16,ERd) 4159, 3361
    ∷ row 4 (is 0x01 ∷ is 0x40 ∷ is 0x78 ∷ e0 ∷ is 0x6B ∷ is 0xA0 ∷ any24)  -- STC.W CCR,@(d:24,ERd) 4160, 3362
    ∷ row 4 (is 0x01 ∷ is 0x40 ∷ is 0x6D ∷ 8e0 ∷ [])  -- STC.W CCR,@-ERd 4161; 000:9166
    ∷ row 4 (is 0x01 ∷ is 0x40 ∷ is 0x6B ∷ is 0x80 ∷ any16)  -- STC.W CCR,@aa:16 4162, 3363
    ∷ row 4 (is 0x01 ∷ is 0x40 ∷ is 0x6B ∷ is 0xA0 ∷ any24)  -- STC.W CCR,@aa:24 4163, 3363
    ∷ row 5 (is 0x7B ∷ is 0x5C ∷ is 0x59 ∷ is 0x8F ∷ [])  -- EEPMOV.B 4022, 2087
    ∷ row 5 (is 0x7B ∷ is 0xD4 ∷ is 0x59 ∷ is 0x8F ∷ [])  -- EEPMOV.W 4023, 2120
    ∷ row 6 (is 0x56 ∷ is 0x70 ∷ [])  -- RTE 4142, 3110
    ∷ row 6 (is 0x01 ∷ is 0x80 ∷ [])  -- SLEEP 4156, 3325
    ∷ row 6 (is 0x57 ∷ t0 ∷ [])  -- TRAPA #x:2 4179, 3470
    ∷ row 7 (is 0x6A ∷ 0x4 ·r ∷ any16)  -- MOVFPE @aa:16,Rd 4101, 2570
    ∷ row 7 (is 0x6A ∷ 0xC ·r ∷ any16)  -- MOVTPE Rs,@aa:16 4102, 2587
    ∷ []
