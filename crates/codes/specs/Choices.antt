-- The choice that has a number, its place in the list of its type in `src/lib.rt`; of a number past the last there is none.
use Rattle.std.specs.Prelude.{ℕ, cond, eqb, Result, Ok, Err}
use Rattle.codes.specs.Names.{Op, Add, Sub, Cmp, Mov, Addx, Subx, Or, Xor, And, Way, Up, Down, By, One, Two, Four, Turn, Shll, Shlr, Rotxl, Rotxr, Shal, Shar, Rotl, Rotr}
use Rattle.codes.specs.Names.{Single, Not, Neg, Extu, Exts, Sign, Unsigned, Signed, Change, Orc, Xorc, Andc, Ldc, Dir, Load, Store}
use Rattle.codes.specs.Names.{Take, Btst, Bor, Bior, Bxor, Bixor, Band, Biand, Bld, Bild, Give, Bset, Bnot, Bclr, Bst, Bist, Refusal, NotInstruction}

abbrev pub change_at : ℕ → Result Change Refusal
change_at n = cond (eqb n 0) (Ok Orc) (cond (eqb n 1) (Ok Xorc) (cond (eqb n 2) (Ok Andc) (cond (eqb n 3) (Ok Ldc) (Err NotInstruction))))

abbrev pub op_at : ℕ → Result Op Refusal
op_at n = cond (eqb n 0) (Ok Add) (cond (eqb n 1) (Ok Sub) (cond (eqb n 2) (Ok Cmp) (cond (eqb n 3) (Ok Mov) (cond (eqb n 4) (Ok Addx) (cond (eqb n 5) (Ok Subx) (cond (eqb n 6) (Ok Or) (cond (eqb n 7) (Ok Xor) (cond (eqb n 8) (Ok And) (Err NotInstruction)))))))))

abbrev pub way_at : ℕ → Result Way Refusal
way_at n = cond (eqb n 0) (Ok Up) (cond (eqb n 1) (Ok Down) (Err NotInstruction))

abbrev pub by_at : ℕ → Result By Refusal
by_at n = cond (eqb n 0) (Ok One) (cond (eqb n 1) (Ok Two) (cond (eqb n 2) (Ok Four) (Err NotInstruction)))

abbrev pub turn_at : ℕ → Result Turn Refusal
turn_at n = cond (eqb n 0) (Ok Shll) (cond (eqb n 1) (Ok Shlr) (cond (eqb n 2) (Ok Rotxl) (cond (eqb n 3) (Ok Rotxr) (cond (eqb n 4) (Ok Shal) (cond (eqb n 5) (Ok Shar) (cond (eqb n 6) (Ok Rotl) (cond (eqb n 7) (Ok Rotr) (Err NotInstruction))))))))

abbrev pub single_at : ℕ → Result Single Refusal
single_at n = cond (eqb n 0) (Ok Not) (cond (eqb n 1) (Ok Neg) (cond (eqb n 2) (Ok Extu) (cond (eqb n 3) (Ok Exts) (Err NotInstruction))))

abbrev pub dir_at : ℕ → Result Dir Refusal
dir_at n = cond (eqb n 0) (Ok Load) (cond (eqb n 1) (Ok Store) (Err NotInstruction))

abbrev pub sign_at : ℕ → Result Sign Refusal
sign_at n = cond (eqb n 0) (Ok Unsigned) (cond (eqb n 1) (Ok Signed) (Err NotInstruction))

abbrev pub take_at : ℕ → Result Take Refusal
take_at n = cond (eqb n 0) (Ok Btst) (cond (eqb n 1) (Ok Bor) (cond (eqb n 2) (Ok Bior) (cond (eqb n 3) (Ok Bxor) (cond (eqb n 4) (Ok Bixor) (cond (eqb n 5) (Ok Band) (cond (eqb n 6) (Ok Biand) (cond (eqb n 7) (Ok Bld) (cond (eqb n 8) (Ok Bild) (Err NotInstruction)))))))))

abbrev pub give_at : ℕ → Result Give Refusal
give_at n = cond (eqb n 0) (Ok Bset) (cond (eqb n 1) (Ok Bnot) (cond (eqb n 2) (Ok Bclr) (cond (eqb n 3) (Ok Bst) (cond (eqb n 4) (Ok Bist) (Err NotInstruction)))))
