-- host/h8.h, "A REPLAY BETWEEN TWO CALLS": where a replay stands, as 24 numbers of a lent array. Any numbers are read as some replay: what no replay leaves is
-- read as the clauses say, a number past the last choice as the last, a condition byte by its remainder.
use Rattle.std.specs.Prelude.{ℕ, ◌+◌, ◌*◌, ◌/◌, ◌%◌, ◌^◌, cond, List, [], ◌∷◌, ◌++◌, eqb, get_or}
use Rattle.refusal.specs.Refusals.{number_of, place_of, group_of}
use Rattle.refusal.specs.declared.Refusal.{Refusal}
use Rattle.refusal.specs.declared.Refusal.TheVariants.{BadBoard, FetchOutside, UnknownCode, CutShort, ReadOutside, WriteOutside, NoAdjustRow, BadEntry, NotFollowed, NotUpward, NotInstruction, BudgetTooLarge, LentTooShort, DivideFails, LeftOut, TooDeep, BadVersion, BadLength, Unfinished, ReplayEnded, TooLong}
use Rattle.layout.specs.Registers.{registers_of, ten_of}
use Rattle.replay.specs.Replay.{field_number, part, standing}
use Rattle.replay.specs.declared.Part.{Part}
use Rattle.replay.specs.declared.Field.{Field}
use Rattle.replay.specs.declared.Field.TheVariants.{OfPc, OfCondition, OfStates}
use Rattle.replay.specs.declared.Report.{Report}
use Rattle.replay.specs.declared.Report.TheVariants.{Agreed, Differs, Halted}
use Rattle.replay.specs.declared.Stage.{Stage}
use Rattle.replay.specs.declared.Stage.TheVariants.{Version, Records, Told, Closed}
use Rattle.replay.specs.declared.Standing.{Standing}

-- H8_REPLAY
abbrev pub replay_length : ℕ
replay_length = 24

-- ---- written

-- report, field, number, place, group
unfoldable pub report_numbers : Report → List ℕ
report_numbers Agreed = 0 ∷ 0 ∷ 0 ∷ 0 ∷ 0 ∷ []
report_numbers (Differs f) = 1 ∷ field_number f ∷ 0 ∷ 0 ∷ 0 ∷ []
report_numbers (Halted f) = 2 ∷ 0 ∷ number_of f ∷ place_of f ∷ group_of f ∷ []

-- the stage, what is read of the next record, and the report
unfoldable pub stage_numbers : Stage → List ℕ
stage_numbers Version = 0 ∷ 0 ∷ 0 ∷ 0 ∷ 0 ∷ 0 ∷ 0 ∷ 0 ∷ 0 ∷ 0 ∷ 0 ∷ []
stage_numbers (Records p) = 1 ∷ p.count ∷ p.size ∷ p.pc ∷ p.condition ∷ p.states ∷ 0 ∷ 0 ∷ 0 ∷ 0 ∷ 0 ∷ []
stage_numbers (Told t) = 2 ∷ 0 ∷ 0 ∷ 0 ∷ 0 ∷ 0 ∷ report_numbers t
stage_numbers Closed = 3 ∷ 0 ∷ 0 ∷ 0 ∷ 0 ∷ 0 ∷ 0 ∷ 0 ∷ 0 ∷ 0 ∷ 0 ∷ []

-- the registers, the records that agreed, the states upper number first, and the stage
unfoldable pub numbers_of : Standing → List ℕ
numbers_of k = ten_of k.regs ++ k.steps ∷ k.states / 2 ^ 32 ∷ k.states % 2 ^ 32 ∷ stage_numbers k.stage

-- ---- read

abbrev pub field_at : ℕ → Field
field_at n = cond (eqb n 1) OfPc (cond (eqb n 2) OfCondition OfStates)

-- by document 01's number; another one is 1
unfoldable pub refusal_at : ℕ → ℕ → ℕ → Refusal
refusal_at n place group =
    cond (eqb n 2) (FetchOutside place)
    (cond (eqb n 3) (UnknownCode place)
    (cond (eqb n 4) (CutShort place)
    (cond (eqb n 5) (ReadOutside place)
    (cond (eqb n 6) (WriteOutside place)
    (cond (eqb n 7) (NoAdjustRow place)
    (cond (eqb n 8) (BadEntry place)
    (cond (eqb n 9) (NotFollowed place)
    (cond (eqb n 10) (NotUpward place)
    (cond (eqb n 11) NotInstruction
    (cond (eqb n 12) BudgetTooLarge
    (cond (eqb n 13) (LentTooShort place)
    (cond (eqb n 14) (DivideFails place)
    (cond (eqb n 15) (LeftOut (group % 2 ^ 8 * 2 ^ 24 + place % 2 ^ 24))
    (cond (eqb n 16) (TooDeep place)
    (cond (eqb n 17) BadVersion
    (cond (eqb n 18) (BadLength place)
    (cond (eqb n 19) (Unfinished place)
    (cond (eqb n 20) ReplayEnded
    (cond (eqb n 22) (TooLong place)
    BadBoard)))))))))))))))))))

abbrev pub report_at : ℕ → Field → Refusal → Report
report_at n f r = cond (eqb n 0) Agreed (cond (eqb n 1) (Differs f) (Halted r))

abbrev pub stage_at : ℕ → Part → Report → Stage
stage_at n p t = cond (eqb n 0) Version (cond (eqb n 1) (Records p) (cond (eqb n 2) (Told t) Closed))

unfoldable pub part_of : List ℕ → Part
part_of l = part (get_or l 14 0) (get_or l 15 0) (get_or l 16 0) (get_or l 17 0 % 256) (get_or l 18 0)

unfoldable pub report_of : List ℕ → Report
report_of l = report_at (get_or l 19 0) (field_at (get_or l 20 0)) (refusal_at (get_or l 21 0) (get_or l 22 0) (get_or l 23 0))

unfoldable pub standing_of : List ℕ → Standing
standing_of l =
    standing (registers_of l) (get_or l 10 0) (get_or l 11 0 * 2 ^ 32 + get_or l 12 0) (stage_at (get_or l 13 0) (part_of l) (report_of l))
