-- host/h8.h: the number of each choice of an instruction.
use Rattle.std.specs.Prelude.{ℕ}
use Rattle.layout.specs.Names.{Width, Byte, Word, Long, Change, Orc, Xorc, Andc, Ldc, Op, Add, Sub, Cmp, Mov, Addx, Subx, Or, Xor, And, Way, Up}
use Rattle.layout.specs.Names.{Down, By, One, Two, Four, Turn, Shll, Shlr, Rotxl, Rotxr, Shal, Shar, Rotl, Rotr, Single, Not, Neg, Extu, Exts}
use Rattle.layout.specs.Names.{Dir, Load, Store, Sign, Unsigned, Signed}
use Rattle.layout.specs.Names.{Take, Btst, Bor, Bior, Bxor, Bixor, Band, Biand, Bld, Bild, Give, Bset, Bnot, Bclr, Bst, Bist}

-- enum h8_width
abbrev pub width_number : Width → ℕ
width_number Byte = 0
width_number Word = 1
width_number Long = 2

-- enum h8_change
abbrev pub change_number : Change → ℕ
change_number Orc = 0
change_number Xorc = 1
change_number Andc = 2
change_number Ldc = 3

-- enum h8_op
abbrev pub op_number : Op → ℕ
op_number Add = 0
op_number Sub = 1
op_number Cmp = 2
op_number Mov = 3
op_number Addx = 4
op_number Subx = 5
op_number Or = 6
op_number Xor = 7
op_number And = 8

-- enum h8_way: INC, ADDS, DAA; or DEC, SUBS, DAS
abbrev pub way_number : Way → ℕ
way_number Up = 0
way_number Down = 1

-- enum h8_by
abbrev pub by_number : By → ℕ
by_number One = 0
by_number Two = 1
by_number Four = 2

-- enum h8_turn
abbrev pub turn_number : Turn → ℕ
turn_number Shll = 0
turn_number Shlr = 1
turn_number Rotxl = 2
turn_number Rotxr = 3
turn_number Shal = 4
turn_number Shar = 5
turn_number Rotl = 6
turn_number Rotr = 7

-- enum h8_single
abbrev pub single_number : Single → ℕ
single_number Not = 0
single_number Neg = 1
single_number Extu = 2
single_number Exts = 3

-- enum h8_dir
abbrev pub dir_number : Dir → ℕ
dir_number Load = 0
dir_number Store = 1

-- enum h8_sign: MULXU, DIVXU; or MULXS, DIVXS
abbrev pub sign_number : Sign → ℕ
sign_number Unsigned = 0
sign_number Signed = 1

-- enum h8_take
abbrev pub take_number : Take → ℕ
take_number Btst = 0
take_number Bor = 1
take_number Bior = 2
take_number Bxor = 3
take_number Bixor = 4
take_number Band = 5
take_number Biand = 6
take_number Bld = 7
take_number Bild = 8

-- enum h8_give
abbrev pub give_number : Give → ℕ
give_number Bset = 0
give_number Bnot = 1
give_number Bclr = 2
give_number Bst = 3
give_number Bist = 4
