-- What bytes begin with, case by case as the code of `src/whole.rt` does, and `found_of`, which asks first how many they are. As in
-- `MirrorWords`, nothing here is to be believed.
use Rattle.std.specs.Prelude.{ℕ, ◌+◌, ◌*◌, ◌%◌, Bool, true, false, List, ltb, eqb, length, get_or, drop, Option, Some, None, Result, Ok, Err}
use Rattle.refusal.specs.declared.Refusal.{Refusal}
use Rattle.left.specs.Left.{group_in, left_out}
use Rattle.left.specs.Unheld.{unheld_of}
use Rattle.decoder.specs.Names.{Word, Long, Imm, Disp, Abs16, Abs24, Far, Direct, Instruction, Alu, Move, Bcc, Jmp, Bsr, Jsr, CutShort}
use Rattle.decoder.specs.Names.{Rest, Imm16, Imm32, Disp16, Aa16, Aa24, Bcc16, Bsr16, Jmp24, Jsr24, Plan, Whole, Lacks, Tail, Bits16, Bits24, Bits32, Fault, Cut, Unlisted}
use Rattle.decoder.specs.MirrorWords.{pick, plan_of, names_byte, after_of}

abbrev pub tail_of_rest : Rest → Tail
tail_of_rest (Imm16 op r) = Bits16
tail_of_rest (Imm32 op r) = Bits32
tail_of_rest (Disp16 dir w e r) = Bits16
tail_of_rest (Aa16 dir w r) = Bits16
tail_of_rest (Aa24 dir w r) = Bits24
tail_of_rest (Bcc16 c) = Bits16
tail_of_rest Bsr16 = Bits16
tail_of_rest (Jmp24 b) = Bits16
tail_of_rest (Jsr24 b) = Bits16

abbrev pub fill_of : Rest → ℕ → Instruction
fill_of (Imm16 op r) v = Alu op Word (Imm v) r
fill_of (Imm32 op r) v = Alu op Long (Imm v) r
fill_of (Disp16 dir w e r) v = Move dir w (Disp e (v % 65536)) r
fill_of (Aa16 dir w r) v = Move dir w (Abs16 (v % 65536)) r
fill_of (Aa24 dir w r) v = Move dir w (Abs24 v) r
fill_of (Bcc16 c) v = Bcc c (Far (v % 65536))
fill_of Bsr16 v = Bsr (Far (v % 65536))
fill_of (Jmp24 b) v = Jmp (Direct (b * 65536 + v % 65536))
fill_of (Jsr24 b) v = Jsr (Direct (b * 65536 + v % 65536))

abbrev pub num16 : List ℕ → ℕ
num16 s = get_or s 0 0 * 256 + get_or s 1 0

abbrev pub num32 : List ℕ → ℕ
num32 s = get_or s 0 0 * 16777216 + get_or s 1 0 * 65536 + get_or s 2 0 * 256 + get_or s 3 0

abbrev pub with16 : Rest → List ℕ → ℕ → Result (Instruction × ℕ) Fault
with16 q rest n = pick (ltb (length rest) 2) (Err Cut) (Ok (fill_of q (num16 rest), n + 2))

abbrev pub with32 : Rest → List ℕ → ℕ → Result (Instruction × ℕ) Fault
with32 q rest n = pick (ltb (length rest) 4) (Err Cut) (Ok (fill_of q (num32 rest), n + 4))

abbrev pub with24 : Rest → List ℕ → ℕ → Result (Instruction × ℕ) Fault
with24 q rest n = pick (eqb (length rest) 0) (Err Cut) (pick (eqb (get_or rest 0 0) 0) (with32 q rest n) (Err Unlisted))

abbrev pub by_tail : Tail → Rest → List ℕ → ℕ → Result (Instruction × ℕ) Fault
by_tail Bits16 q rest n = with16 q rest n
by_tail Bits24 q rest n = with24 q rest n
by_tail Bits32 q rest n = with32 q rest n

abbrev pub finish_of : Option Plan → List ℕ → ℕ → Result (Instruction × ℕ) Fault
finish_of (Some (Whole i)) rest n = Ok (i, n)
finish_of (Some (Lacks q)) rest n = by_tail (tail_of_rest q) q rest n
finish_of None rest n = Err Unlisted

abbrev pub begun_of : Option Plan → Fault
begun_of (Some (Whole i)) = Cut
begun_of (Some (Lacks q)) = Cut
begun_of None = Unlisted

abbrev pub two_words : ℕ → Bool
two_words a =
    pick (eqb a 0x01) true
    (pick (eqb a 0x7C) true
    (pick (eqb a 0x7D) true
    (pick (eqb a 0x7E) true
    (pick (eqb a 0x7F) true false))))

abbrev pub alone_of : ℕ → Option Plan → Fault
alone_of a p = pick (two_words a) Cut (pick (eqb a 0x54) Cut (begun_of p))

abbrev pub starts_of : ℕ → Fault
starts_of a = alone_of a (plan_of a 0)

abbrev pub prefix01 : ℕ → Fault
prefix01 b =
    pick (eqb b 0x00) Cut
    (pick (eqb b 0xC0) Cut
    (pick (eqb b 0xD0) Cut
    (pick (eqb b 0xF0) Cut Unlisted)))

abbrev pub prefix_of : ℕ → ℕ → Fault
prefix_of a b = pick (eqb a 0x01) (prefix01 b) (pick (names_byte a b) Cut Unlisted)

abbrev pub prefixed_of : ℕ → ℕ → List ℕ → Result (Instruction × ℕ) Fault
prefixed_of a b rest =
    pick (eqb (length rest) 0) (Err (prefix_of a b))
    (pick (eqb (length rest) 1) (Err (begun_of (after_of a b (get_or rest 0 0) 0)))
    (finish_of (after_of a b (get_or rest 0 0) (get_or rest 1 0)) (drop 2 rest) 4))

abbrev pub found_of : List ℕ → Result (Instruction × ℕ) Fault
found_of s =
    pick (eqb (length s) 0) (Err Cut)
    (pick (eqb (length s) 1) (Err (starts_of (get_or s 0 0)))
    (pick (two_words (get_or s 0 0)) (prefixed_of (get_or s 0 0) (get_or s 1 0) (drop 2 s))
    (finish_of (plan_of (get_or s 0 0) (get_or s 1 0)) (drop 2 s) 2)))

-- the code finds the same another way: the words are planned, with 0 for a byte that is missing, and then it asks how many bytes there are;
-- `too_few` and `enough` of `proofs/Planned.antt` join the two
abbrev pub short_of : Option Plan → List ℕ → Fault
short_of p s =
    pick (eqb (length s) 0) Cut
    (pick (eqb (length s) 1) (alone_of (get_or s 0 0) p)
    (pick (eqb (length s) 2) (prefix_of (get_or s 0 0) (get_or s 1 0)) (begun_of p)))

abbrev pub lead_of : ℕ → ℕ
lead_of a = pick (two_words a) 4 2

abbrev pub planned_of : List ℕ → Option Plan
planned_of s =
    pick (two_words (get_or s 0 0)) (after_of (get_or s 0 0) (get_or s 1 0) (get_or s 2 0) (get_or s 3 0))
    (plan_of (get_or s 0 0) (get_or s 1 0))

abbrev pub placed_of : ℕ → List ℕ → Result (Instruction × ℕ) Fault → Result (Instruction × ℕ) Refusal
placed_of place s (Ok (i, n)) = Ok (i, n)
placed_of place s (Err Cut) = Err (CutShort place)
placed_of place s (Err Unlisted) = Err (unheld_of place (group_in left_out s))

abbrev pub decode_of : ℕ → List ℕ → Result (Instruction × ℕ) Refusal
decode_of place s = placed_of place s (found_of s)
