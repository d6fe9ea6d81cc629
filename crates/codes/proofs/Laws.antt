-- Laws over the code list and the states, for callers: every code has 2, 4, 6 or 8 bytes, each below 256; an instruction takes 2 to 24 states.
use Prim.Native.Nat.{ℕ, zero, suc, ◌+◌, ◌-◌, ◌%◌, ◌≤◌, ◌<◌}
use mathlib.Core.Path.{◌≡◌}
use mathlib.Core.List.{List, [], ◌∷◌}
use native.Mathlib.Omega.{arith}
use lib.ListN.{length, get_or, take, drop, length-drop}
use lib.Seq.{take_all}
use Rattle.codes.specs.Names.{Width, Byte, Word, Long, Op, Add, Sub, Cmp, Mov, Addx, Subx, Or, Xor, And, Reg, Imm, Way, Up, Down, By, One, Two, Four}
use Rattle.codes.specs.Names.{Turn, Shll, Shlr, Rotxl, Rotxr, Shal, Shar, Rotl, Rotr, Single, Not, Neg, Extu, Exts, Half, Eight, Sixteen, Sign, Unsigned, Signed, Change, Orc, Xorc, Andc, Ldc}
use Rattle.codes.specs.Names.{Take, Btst, Bor, Bior, Bxor, Bixor, Band, Biand, Bld, Bild, Give, Bset, Bnot, Bclr, Bst, Bist, Index, Numbered, ByPart, Spot, InPart, AtEr, AtAbs}
use Rattle.codes.specs.Names.{Dir, Load, Store, Place, At, Step, Disp, Abs8, Abs16, Abs24, Near, Far, ByReg, Direct, Vector}
use Rattle.codes.specs.Names.{Instruction, Nop, Stc, LdcReg, Ccr, Alu, IncDec, AddsSubs, Decimal, Shift, Unary, Multiply, Divide, Takes, Gives, Move, Bcc, Jmp, Bsr, Jsr, Rts}
use Rattle.codes.specs.Code.{code_of, length_of, change_code, reg_code, way_digit, adds_digit, word_digit, long_digit, digit013, digit89_b, extu_digit, exts_digit, first_digit, next_digit, dir_digit, abs8_digit, take_byte, take_side, give_byte, give_side, spot_code, bit_code}
use Rattle.codes.specs.Valid.{Valid, Digit, TakesPart, GivesPart, HasIndex, HasSpot}
use Rattle.codes.specs.States.{states_of, long_states, move_states, product_states}
use Rattle.codes.specs.Exact.{Bytes}

-- ---- the states of an instruction

abbrev Few : ℕ → Type 0
Few n = (2 ≤ n) × (n ≤ 24)

long_few : (op : Op) → Few (long_states op)
long_few Add = omega arith
long_few Sub = omega arith
long_few Cmp = omega arith
long_few Mov = omega arith
long_few Addx = omega arith
long_few Subx = omega arith
long_few Or = omega arith
long_few Xor = omega arith
long_few And = omega arith

move_few : (w : Width) (p : Place) → Few (move_states w p)
move_few Byte (At e) = omega arith
move_few Byte (Step e) = omega arith
move_few Byte (Disp e d) = omega arith
move_few Byte (Abs8 a) = omega arith
move_few Byte (Abs16 a) = omega arith
move_few Byte (Abs24 a) = omega arith
move_few Word (At e) = omega arith
move_few Word (Step e) = omega arith
move_few Word (Disp e d) = omega arith
move_few Word (Abs8 a) = omega arith
move_few Word (Abs16 a) = omega arith
move_few Word (Abs24 a) = omega arith
move_few Long (At e) = omega arith
move_few Long (Step e) = omega arith
move_few Long (Disp e d) = omega arith
move_few Long (Abs8 a) = omega arith
move_few Long (Abs16 a) = omega arith
move_few Long (Abs24 a) = omega arith

product_few : (sign : Sign) (h : Half) → Few (product_states sign h)
product_few Unsigned Eight = omega arith
product_few Unsigned Sixteen = omega arith
product_few Signed Eight = omega arith
product_few Signed Sixteen = omega arith

pub states_range : (i : Instruction) → (2 ≤ states_of i) × (states_of i ≤ 24)
states_range Nop = omega arith
states_range (Stc r) = omega arith
states_range (LdcReg r) = omega arith
states_range (Ccr change v) = omega arith
states_range (Alu op Byte (Reg s) d) = omega arith
states_range (Alu op Word (Reg s) d) = omega arith
states_range (Alu op Long (Reg s) d) = long_few op
states_range (Alu op Byte (Imm v) d) = omega arith
states_range (Alu op Word (Imm v) d) = omega arith
states_range (Alu op Long (Imm v) d) = omega arith
states_range (IncDec way w by r) = omega arith
states_range (AddsSubs way by e) = omega arith
states_range (Decimal way r) = omega arith
states_range (Shift turn w r) = omega arith
states_range (Unary single w r) = omega arith
states_range (Multiply sign h s d) = product_few sign h
states_range (Divide sign h s d) = product_few sign h
states_range (Takes take index (InPart d)) = omega arith
states_range (Takes take index (AtEr e)) = omega arith
states_range (Takes take index (AtAbs a)) = omega arith
states_range (Gives give index (InPart d)) = omega arith
states_range (Gives give index (AtEr e)) = omega arith
states_range (Gives give index (AtAbs a)) = omega arith
states_range (Move dir w p r) = move_few w p
states_range (Bcc c (Near d)) = omega arith
states_range (Bcc c (Far d)) = omega arith
states_range (Jmp (ByReg e)) = omega arith
states_range (Jmp (Direct a)) = omega arith
states_range (Jmp (Vector a)) = omega arith
states_range (Bsr (Near d)) = omega arith
states_range (Bsr (Far d)) = omega arith
states_range (Jsr (ByReg e)) = omega arith
states_range (Jsr (Direct a)) = omega arith
states_range (Jsr (Vector a)) = omega arith
states_range Rts = omega arith

-- ---- the bytes of a code

pub record Sized (n : ℕ) : Type 0 where
  pub even : n % 2 ≡ 0
  pub least : 2 ≤ n
  pub most : n ≤ 8

abbrev Formed : List ℕ → Type 0
Formed c = Bytes c × Sized (length c)

digit_small : (w : Width) (r : ℕ) → Digit w r → r < 16
digit_small Byte r h = omega arith
digit_small Word r h = omega arith
digit_small Long r h = omega arith

change_small : (change : Change) → change_code change < 256
change_small Orc = omega arith
change_small Xorc = omega arith
change_small Andc = omega arith
change_small Ldc = omega arith

way_small : (way : Way) → way_digit way < 16
way_small Up = omega arith
way_small Down = omega arith

adds_small : (by : By) → adds_digit by < 16
adds_small One = omega arith
adds_small Two = omega arith
adds_small Four = omega arith

word_small : (by : By) → word_digit by < 16
word_small One = omega arith
word_small Two = omega arith
word_small Four = omega arith

long_small : (by : By) → long_digit by < 16
long_small One = omega arith
long_small Two = omega arith
long_small Four = omega arith

low_small : (w : Width) → digit013 w < 16
low_small Byte = omega arith
low_small Word = omega arith
low_small Long = omega arith

high_small : (w : Width) → digit89_b w < 16
high_small Byte = omega arith
high_small Word = omega arith
high_small Long = omega arith

extu_small : (w : Width) → extu_digit w < 16
extu_small Byte = omega arith
extu_small Word = omega arith
extu_small Long = omega arith

exts_small : (w : Width) → exts_digit w < 16
exts_small Byte = omega arith
exts_small Word = omega arith
exts_small Long = omega arith

first_small : (op : Op) → first_digit op < 16
first_small Add = omega arith
first_small Sub = omega arith
first_small Cmp = omega arith
first_small Mov = omega arith
first_small Addx = omega arith
first_small Subx = omega arith
first_small Or = omega arith
first_small Xor = omega arith
first_small And = omega arith

next_small : (op : Op) → next_digit op < 16
next_small Add = omega arith
next_small Sub = omega arith
next_small Cmp = omega arith
next_small Mov = omega arith
next_small Addx = omega arith
next_small Subx = omega arith
next_small Or = omega arith
next_small Xor = omega arith
next_small And = omega arith

dir_small : (dir : Dir) → dir_digit dir ≤ 8
dir_small Load = omega arith
dir_small Store = omega arith

abs8_small : (dir : Dir) → abs8_digit dir ≤ 8
abs8_small Load = omega arith
abs8_small Store = omega arith

reg_formed : (op : Op) (w : Width) (s d : ℕ) → Valid (Alu op w (Reg s) d) → Formed (reg_code op w s d)
reg_formed Add Byte s d v = omega arith
reg_formed Add Word s d v = omega arith
reg_formed Add Long s d v = omega arith
reg_formed Sub Byte s d v = omega arith
reg_formed Sub Word s d v = omega arith
reg_formed Sub Long s d v = omega arith
reg_formed Cmp Byte s d v = omega arith
reg_formed Cmp Word s d v = omega arith
reg_formed Cmp Long s d v = omega arith
reg_formed Mov Byte s d v = omega arith
reg_formed Mov Word s d v = omega arith
reg_formed Mov Long s d v = omega arith
reg_formed Addx Byte s d v = omega arith
reg_formed Addx Word s d v = absurd v.0
reg_formed Addx Long s d v = absurd v.0
reg_formed Subx Byte s d v = omega arith
reg_formed Subx Word s d v = absurd v.0
reg_formed Subx Long s d v = absurd v.0
reg_formed Or Byte s d v = omega arith
reg_formed Or Word s d v = omega arith
reg_formed Or Long s d v = omega arith
reg_formed Xor Byte s d v = omega arith
reg_formed Xor Word s d v = omega arith
reg_formed Xor Long s d v = omega arith
reg_formed And Byte s d v = omega arith
reg_formed And Word s d v = omega arith
reg_formed And Long s d v = omega arith

shift_formed : (turn : Turn) (w : Width) (r : ℕ) → Digit w r → Formed (code_of (Shift turn w r))
shift_formed Shll w r v = omega (arith, low_small w, digit_small w r v)
shift_formed Shlr w r v = omega (arith, low_small w, digit_small w r v)
shift_formed Rotxl w r v = omega (arith, low_small w, digit_small w r v)
shift_formed Rotxr w r v = omega (arith, low_small w, digit_small w r v)
shift_formed Shal w r v = omega (arith, high_small w, digit_small w r v)
shift_formed Shar w r v = omega (arith, high_small w, digit_small w r v)
shift_formed Rotl w r v = omega (arith, high_small w, digit_small w r v)
shift_formed Rotr w r v = omega (arith, high_small w, digit_small w r v)

unary_formed : (single : Single) (w : Width) (r : ℕ) → Digit w r → Formed (code_of (Unary single w r))
unary_formed Not w r v = omega (arith, low_small w, digit_small w r v)
unary_formed Neg w r v = omega (arith, high_small w, digit_small w r v)
unary_formed Extu w r v = omega (arith, extu_small w, digit_small w r v)
unary_formed Exts w r v = omega (arith, exts_small w, digit_small w r v)

multiply_formed : (sign : Sign) (h : Half) (s d : ℕ) → Valid (Multiply sign h s d) → Formed (code_of (Multiply sign h s d))
multiply_formed Unsigned Eight s d v = omega arith
multiply_formed Unsigned Sixteen s d v = omega arith
multiply_formed Signed Eight s d v = omega arith
multiply_formed Signed Sixteen s d v = omega arith

divide_formed : (sign : Sign) (h : Half) (s d : ℕ) → Valid (Divide sign h s d) → Formed (code_of (Divide sign h s d))
divide_formed Unsigned Eight s d v = omega arith
divide_formed Unsigned Sixteen s d v = omega arith
divide_formed Signed Eight s d v = omega arith
divide_formed Signed Sixteen s d v = omega arith

take_small : (take : Take) → (take_byte take < 256) × (take_side take ≤ 8)
take_small Btst = omega arith
take_small Bor = omega arith
take_small Bior = omega arith
take_small Bxor = omega arith
take_small Bixor = omega arith
take_small Band = omega arith
take_small Biand = omega arith
take_small Bld = omega arith
take_small Bild = omega arith

give_small : (give : Give) → (give_byte give < 256) × (give_side give ≤ 8)
give_small Bset = omega arith
give_small Bnot = omega arith
give_small Bclr = omega arith
give_small Bst = omega arith
give_small Bist = omega arith

spot_formed : (lead : ℕ) → lead < 128 → (spot : Spot) → HasSpot spot → (byte digit : ℕ) → byte < 256 → digit < 16 → Formed (spot_code lead spot byte digit)
spot_formed lead l (InPart d) s byte digit b h = omega arith
spot_formed lead l (AtEr e) s byte digit b h = omega arith
spot_formed lead l (AtAbs a) s byte digit b h = omega arith

bit_formed : (part : Type 0) (lead : ℕ) → lead < 128 → (spot : Spot) (index : Index) (byte side : ℕ) → (byte < 256) × (side ≤ 8) → HasIndex part index × HasSpot spot → Formed (bit_code lead spot index byte side)
bit_formed part lead l spot (Numbered n) byte side b (i, s) = spot_formed lead l spot s byte (side + n) b.0 (omega arith)
bit_formed part lead l spot (ByPart r) byte side b (i, s) = spot_formed lead l spot s (byte - 0x10) r (omega arith) i.1

move_formed : (dir : Dir) (w : Width) (p : Place) (r : ℕ) → Valid (Move dir w p r) → Formed (code_of (Move dir w p r))
move_formed dir Byte (At e) r v = omega (arith, dir_small dir)
move_formed dir Byte (Step e) r v = omega (arith, dir_small dir)
move_formed dir Byte (Disp e d) r v = omega (arith, dir_small dir)
move_formed dir Byte (Abs8 a) r v = omega (arith, abs8_small dir)
move_formed dir Byte (Abs16 a) r v = omega (arith, dir_small dir)
move_formed dir Byte (Abs24 a) r v = omega (arith, dir_small dir)
move_formed dir Word (At e) r v = omega (arith, dir_small dir)
move_formed dir Word (Step e) r v = omega (arith, dir_small dir)
move_formed dir Word (Disp e d) r v = omega (arith, dir_small dir)
move_formed dir Word (Abs8 a) r v = absurd v.0.0
move_formed dir Word (Abs16 a) r v = omega (arith, dir_small dir)
move_formed dir Word (Abs24 a) r v = omega (arith, dir_small dir)
move_formed dir Long (At e) r v = omega (arith, dir_small dir)
move_formed dir Long (Step e) r v = omega (arith, dir_small dir)
move_formed dir Long (Disp e d) r v = omega (arith, dir_small dir)
move_formed dir Long (Abs8 a) r v = absurd v.0.0
move_formed dir Long (Abs16 a) r v = omega (arith, dir_small dir)
move_formed dir Long (Abs24 a) r v = omega (arith, dir_small dir)

formed : (i : Instruction) → Valid i → Formed (code_of i)
formed Nop v = omega arith
formed (Stc r) v = omega arith
formed (LdcReg r) v = omega arith
formed (Ccr change n) v = omega (arith, change_small change)
formed (Alu op w (Reg s) d) v = reg_formed op w s d v
formed (Alu op Byte (Imm n) d) v = omega (arith, first_small op)
formed (Alu op Word (Imm n) d) v = omega (arith, next_small op)
formed (Alu op Long (Imm n) d) v = omega (arith, next_small op)
formed (IncDec way Byte by r) v = omega (arith, way_small way)
formed (IncDec way Word by r) v = omega (arith, way_small way, word_small by)
formed (IncDec way Long by r) v = omega (arith, way_small way, long_small by)
formed (AddsSubs way by e) v = omega (arith, way_small way, adds_small by)
formed (Decimal way r) v = omega (arith, way_small way)
formed (Shift turn w r) v = shift_formed turn w r v
formed (Unary single w r) v = unary_formed single w r v.1
formed (Multiply sign h s d) v = multiply_formed sign h s d v
formed (Divide sign h s d) v = divide_formed sign h s d v
formed (Takes take index spot) v = bit_formed (TakesPart take) 0x7C (omega arith) spot index (take_byte take) (take_side take) (take_small take) v
formed (Gives give index spot) v = bit_formed (GivesPart give) 0x7D (omega arith) spot index (give_byte give) (give_side give) (give_small give) v
formed (Move dir w p r) v = move_formed dir w p r v
formed (Bcc c (Near d)) v = omega arith
formed (Bcc c (Far d)) v = omega arith
formed (Jmp (ByReg e)) v = omega arith
formed (Jmp (Direct a)) v = omega arith
formed (Jmp (Vector a)) v = omega arith
formed (Bsr (Near d)) v = omega arith
formed (Bsr (Far d)) v = omega arith
formed (Jsr (ByReg e)) v = omega arith
formed (Jsr (Direct a)) v = omega arith
formed (Jsr (Vector a)) v = omega arith
formed Rts v = omega arith

pub code_bytes : (i : Instruction) → Valid i → Bytes (code_of i)
code_bytes i v = (formed i v).0

pub code_sized : (i : Instruction) → Valid i → Sized (length_of i)
code_sized i v = (formed i v).1

-- ---- bytes of a slice

pub bytes_of : (s : List ℕ) → ((k : ℕ) → get_or s k 0 < 256) → Bytes s
bytes_of [] f = tt
bytes_of (x ∷ s) f = (f 0, bytes_of s (λ k. f (suc k)))

pub bytes_drop : (k : ℕ) (s : List ℕ) → Bytes s → Bytes (drop k s)
bytes_drop zero s h = h
bytes_drop (suc k) [] h = tt
bytes_drop (suc k) (x ∷ s) h = bytes_drop k s h.1

-- what `&s[k..]` lends is the list from k on
pub rest_of : (k : ℕ) (s : List ℕ) → take (length s - k) (drop k s) ≡ drop k s
rest_of k s = take_all (length s - k) (drop k s) (omega (arith, length-drop k s))
