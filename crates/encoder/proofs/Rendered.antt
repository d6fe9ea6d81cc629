-- The parts of an instruction, put together, are its code.
use Rattle.std.specs.Prelude.{Option, Some, None}
use Prim.Native.Nat.{ℕ, ◌+◌, ◌-◌, ◌/◌, ◌%◌, ◌<◌}
use mathlib.Core.Path.{◌≡◌, refl, sym, ap, ◌∙◌}
use mathlib.Core.List.{List, [], ◌∷◌, ◌++◌}
use native.Mathlib.Omega.{arith}
use native.Mathlib.Nat.{zero-add}
use Rattle.encoder.specs.Names.{Width, Byte, Word, Long, Op, Add, Sub, Cmp, Mov, Addx, Subx, Or, Xor, And, Reg, Imm, Turn, Shll, Shlr, Rotxl}
use Rattle.encoder.specs.Names.{Rotxr, Shal, Shar, Rotl, Rotr, Not, Neg, Extu, Exts, Unsigned, Signed, Dir, Place, At, Step, Disp, Abs8, Abs16, Abs24, Near, Far}
use Rattle.encoder.specs.Names.{ByReg, Direct, Vector, Instruction, Nop, Stc, LdcReg, Ccr, Alu, IncDec, AddsSubs, Decimal, Shift, Unary, Multiply, Divide, Takes, Gives, Move}
use Rattle.encoder.specs.Names.{Bcc, Jmp, Bsr, Jsr, Rts, Tail, Bits16, Bits32, Parts}
use Rattle.encoder.specs.Names.{Index, Numbered, ByPart, Spot, InPart, AtEr, AtAbs}
use Rattle.codes.specs.Code.{◌·◌, be16, be24, be32, dir_digit, take_byte, take_side, give_byte, give_side, spot_code, bit_code, code_of}
use Rattle.codes.specs.Valid.{HasReg, Valid}
use Rattle.encoder.specs.MirrorParts.{spot_parts, bit_parts, parts_of}

abbrev pub tail_bytes : Option Tail → List ℕ
tail_bytes None = []
tail_bytes (Some (Bits16 v)) = be16 v
tail_bytes (Some (Bits32 v)) = be32 v

abbrev pub prefixed : Option (ℕ × ℕ) → List ℕ → List ℕ
prefixed None s = s
prefixed (Some (x, y)) s = x ∷ y ∷ s

-- the bytes of the parts
abbrev pub render : Parts → List ℕ
render h = prefixed h.prefix (h.a ∷ h.b ∷ tail_bytes h.tail)

-- aa:24 after 00 is a number of 32 bits
zero24 : (v : ℕ) (l : List ℕ) → v < 0x1000000 → l ++ (0x00 ∷ be24 v) ≡ l ++ be32 v
zero24 v l h = λ i. l ++ (top i ∷ next i ∷ v / 256 % 256 ∷ v % 256 ∷ [])
  where
    top : 0 ≡ v / 16777216
    top = omega arith

    next : v / 65536 ≡ v / 65536 % 256
    next = omega arith

-- aa:24 without it is a byte and a number of 16 bits
low24 : (a v : ℕ) → v < 0x1000000 → a ∷ be24 v ≡ a ∷ v / 65536 ∷ be16 (v % 65536)
low24 a v h = λ i. a ∷ v / 65536 ∷ p i ∷ q i ∷ []
  where
    p : v / 256 % 256 ≡ v % 65536 / 256
    p = omega arith

    q : v % 256 ≡ v % 65536 % 256
    q = omega arith

reg_bytes : (op : Op) (w : Width) (s d : ℕ) → HasReg op w → code_of (Alu op w (Reg s) d) ≡ render (parts_of (Alu op w (Reg s) d))
reg_bytes Add Byte s d h = refl
reg_bytes Add Word s d h = refl
reg_bytes Add Long s d h = refl
reg_bytes Sub Byte s d h = refl
reg_bytes Sub Word s d h = refl
reg_bytes Sub Long s d h = refl
reg_bytes Cmp Byte s d h = refl
reg_bytes Cmp Word s d h = refl
reg_bytes Cmp Long s d h = refl
reg_bytes Mov Byte s d h = refl
reg_bytes Mov Word s d h = refl
reg_bytes Mov Long s d h = refl
reg_bytes Addx Byte s d h = refl
reg_bytes Addx Word s d h = absurd h
reg_bytes Addx Long s d h = absurd h
reg_bytes Subx Byte s d h = refl
reg_bytes Subx Word s d h = absurd h
reg_bytes Subx Long s d h = absurd h
reg_bytes Or Byte s d h = refl
reg_bytes Or Word s d h = refl
reg_bytes Or Long s d h = refl
reg_bytes Xor Byte s d h = refl
reg_bytes Xor Word s d h = refl
reg_bytes Xor Long s d h = refl
reg_bytes And Byte s d h = refl
reg_bytes And Word s d h = refl
reg_bytes And Long s d h = refl

shift_bytes : (turn : Turn) (w : Width) (r : ℕ) → code_of (Shift turn w r) ≡ render (parts_of (Shift turn w r))
shift_bytes Shll w r = refl
shift_bytes Shlr w r = refl
shift_bytes Rotxl w r = refl
shift_bytes Rotxr w r = refl
shift_bytes Shal w r = refl
shift_bytes Shar w r = refl
shift_bytes Rotl w r = refl
shift_bytes Rotr w r = refl

spot_bytes : (lead : ℕ) (spot : Spot) (byte side digit : ℕ) → spot_code lead spot byte (side + digit) ≡ render (spot_parts lead spot byte side digit)
spot_bytes lead (InPart d) byte side digit = refl
spot_bytes lead (AtEr e) byte side digit = refl
spot_bytes lead (AtAbs a) byte side digit = refl

bit_bytes_lem : (lead : ℕ) (spot : Spot) (index : Index) (byte side : ℕ) → bit_code lead spot index byte side ≡ render (bit_parts lead spot index byte side)
bit_bytes_lem lead spot (Numbered n) byte side = spot_bytes lead spot byte side n
bit_bytes_lem lead spot (ByPart r) byte side = ap (spot_code lead spot (byte - 0x10)) (sym (zero-add r)) ∙ spot_bytes lead spot (byte - 0x10) 0 r

move_bytes : (dir : Dir) (w : Width) (p : Place) (r : ℕ) → Valid (Move dir w p r) → code_of (Move dir w p r) ≡ render (parts_of (Move dir w p r))
move_bytes dir Byte (At e) r v = refl
move_bytes dir Byte (Abs8 a) r v = refl
move_bytes dir Byte (Step e) r v = refl
move_bytes dir Byte (Disp e d) r v = refl
move_bytes dir Byte (Abs16 a) r v = refl
move_bytes dir Byte (Abs24 a) r v = zero24 a (0x6A ∷ (dir_digit dir + 2) · r ∷ []) v.0
move_bytes dir Word (At e) r v = refl
move_bytes dir Word (Abs8 a) r v = absurd v.0.0
move_bytes dir Word (Step e) r v = refl
move_bytes dir Word (Disp e d) r v = refl
move_bytes dir Word (Abs16 a) r v = refl
move_bytes dir Word (Abs24 a) r v = zero24 a (0x6B ∷ (dir_digit dir + 2) · r ∷ []) v.0
move_bytes dir Long (At e) r v = refl
move_bytes dir Long (Abs8 a) r v = absurd v.0.0
move_bytes dir Long (Step e) r v = refl
move_bytes dir Long (Disp e d) r v = refl
move_bytes dir Long (Abs16 a) r v = refl
move_bytes dir Long (Abs24 a) r v = zero24 a (0x01 ∷ 0x00 ∷ 0x6B ∷ (dir_digit dir + 2) · r ∷ []) v.0

-- the parts are those of the code
pub code_is : (i : Instruction) → Valid i → code_of i ≡ render (parts_of i)
code_is Nop v = refl
code_is (Stc r) v = refl
code_is (LdcReg r) v = refl
code_is (Ccr change n) v = refl
code_is (Alu op w (Reg s) d) v = reg_bytes op w s d v.0
code_is (Alu op Byte (Imm n) d) v = refl
code_is (Alu op Word (Imm n) d) v = refl
code_is (Alu op Long (Imm n) d) v = refl
code_is (IncDec way Byte by r) v = refl
code_is (IncDec way Word by r) v = refl
code_is (IncDec way Long by r) v = refl
code_is (AddsSubs way by e) v = refl
code_is (Decimal way r) v = refl
code_is (Shift turn w r) v = shift_bytes turn w r
code_is (Unary Not w r) v = refl
code_is (Unary Neg w r) v = refl
code_is (Unary Extu w r) v = refl
code_is (Unary Exts w r) v = refl
code_is (Multiply Unsigned h s d) v = refl
code_is (Multiply Signed h s d) v = refl
code_is (Divide Unsigned h s d) v = refl
code_is (Divide Signed h s d) v = refl
code_is (Takes take index spot) v = bit_bytes_lem 0x7C spot index (take_byte take) (take_side take)
code_is (Gives give index spot) v = bit_bytes_lem 0x7D spot index (give_byte give) (give_side give)
code_is (Move dir w p r) v = move_bytes dir w p r v
code_is (Bcc c (Near d)) v = refl
code_is (Bcc c (Far d)) v = refl
code_is (Jmp (ByReg e)) v = refl
code_is (Jmp (Direct a)) v = low24 0x5A a v
code_is (Jmp (Vector a)) v = refl
code_is (Bsr (Near d)) v = refl
code_is (Bsr (Far d)) v = refl
code_is (Jsr (ByReg e)) v = refl
code_is (Jsr (Direct a)) v = low24 0x5E a v
code_is (Jsr (Vector a)) v = refl
code_is Rts v = refl
