-- Document 01, "Marked examples": a row for each, and what it says of the product's definitions. `marked` of proofs/Marked.antt proves all of them together.
use Rattle.std.specs.Prelude.{ℕ, ◌≡◌, List, [], ◌∷◌, Result, Ok, Err}
use Rattle.refusal.specs.declared.Refusal.{Refusal}
use Rattle.refusal.specs.declared.Refusal.TheVariants.{FetchOutside, NoAdjustRow, NotUpward}
use Rattle.registers.specs.declared.Registers.{Registers}
use Rattle.registers.specs.Condition.{condition_of}
use Rattle.memory.specs.Board.{plain_board}
use Rattle.memory.specs.declared.Board.{Board}
use Rattle.step.specs.Step.{after, answered, step_of}
use Rattle.run.specs.Run.{ran, told, run_of}
use Rattle.run.specs.declared.Ending.TheVariants.{Spent}
use Rattle.figure.specs.Answer.{Figured}

-- ER0 and ER1 (the others are 0), PC and the condition byte
abbrev pub registers : ℕ → ℕ → ℕ → ℕ → Registers
registers er0 er1 pc byte = record { er = er0 ∷ er1 ∷ 0 ∷ 0 ∷ 0 ∷ 0 ∷ 0 ∷ 0 ∷ []; pc = pc; condition = condition_of byte }

pub data Row : Type 0 where
  -- one step: read-only bytes, registers and working memory (from FFEF10) before; registers, states, outcome and working memory after
  one_step : List ℕ → Registers → List ℕ → Registers → ℕ → Result (Unit {0}) Refusal → List ℕ → Row
  -- two steps: read-only bytes and registers before; registers and the sum of states after
  two_steps : List ℕ → Registers → Registers → ℕ → Row
  -- the figure: read-only bytes, the entry, the lent table before; the answer, and the table after
  figures : List ℕ → ℕ → List ℕ → Result ℕ Refusal → List ℕ → Row

-- without ports: the area is empty, at FFEF10
abbrev pub board : Board
board = plain_board 0xFFEF10

abbrev pub Holds : Row → Type 0
Holds (one_step rom r ram q states outcome mem) =
    step_of board rom ram r ≡ after (answered q states outcome) mem
Holds (two_steps rom r q states) =
    run_of board rom [] r 0xFFFFFF 2 ≡ ran (told q 2 states Spent) []
Holds (figures rom entry before answer table) = Figured board.site rom entry before answer table

abbrev pub All : List Row → Type 0
All [] = Unit {0}
All (x ∷ rows) = Holds x × All rows

-- condition bytes: I 80, UI 40, H 20, U 10, N 08, Z 04, V 02, C 01
abbrev pub rows : List Row
rows =
    -- 1. 0889, R0L=7F, R1L=01: R1L=80, H N V set, Z C clear, 2 states
    one_step (0x08 ∷ 0x89 ∷ []) (registers 0x7F 0x01 0 0x05) [] (registers 0x7F 0x80 2 0x2A) 2 (Ok tt) []
    -- 2. 0E89, R0L=00, R1L=FF, C=1: 00, C H set, Z as before (clear, and set)
    ∷ one_step (0x0E ∷ 0x89 ∷ []) (registers 0x00 0xFF 0 0x01) [] (registers 0x00 0x00 2 0x21) 2 (Ok tt) []
    ∷ one_step (0x0E ∷ 0x89 ∷ []) (registers 0x00 0xFF 0 0x05) [] (registers 0x00 0x00 2 0x25) 2 (Ok tt) []
    -- 3. 0F09, R1L=5A, C=H=0: 60, C=0
    ∷ one_step (0x0F ∷ 0x09 ∷ []) (registers 0 0x5A 0 0x00) [] (registers 0 0x60 2 0x00) 2 (Ok tt) []
    -- 4. 0F09, 9A, C=H=0: 00, C=1, Z=1
    ∷ one_step (0x0F ∷ 0x09 ∷ []) (registers 0 0x9A 0 0x00) [] (registers 0 0x00 2 0x05) 2 (Ok tt) []
    -- 5. 0F09, 21, C=H=1: 87, C=1
    ∷ one_step (0x0F ∷ 0x09 ∷ []) (registers 0 0x21 0 0x21) [] (registers 0 0x87 2 0x29) 2 (Ok tt) []
    -- 6. 0F09, 04, C=0, H=1: refusal 7
    ∷ one_step (0x0F ∷ 0x09 ∷ []) (registers 0 0x04 0 0x20) [] (registers 0 0x04 0 0x20) 0 (Err (NoAdjustRow 0)) []
    -- 7. 1C89, R1L=80, R0L=01: V H set, N Z C clear; BLT is then taken (4D02 after it goes to 6)
    ∷ one_step (0x1C ∷ 0x89 ∷ []) (registers 0x01 0x80 0 0x0D) [] (registers 0x01 0x80 2 0x22) 2 (Ok tt) []
    ∷ two_steps (0x1C ∷ 0x89 ∷ 0x4D ∷ 0x02 ∷ []) (registers 0x01 0x80 0 0x0D) (registers 0x01 0x80 6 0x22) 6
    -- 8. 6910, ER1=00FFEF11: reads the word at FFEF10
    ∷ one_step (0x69 ∷ 0x10 ∷ []) (registers 0 0x00FFEF11 0 0x00) (0x12 ∷ 0x34 ∷ []) (registers 0x1234 0x00FFEF11 2 0x00) 4 (Ok tt) (0x12 ∷ 0x34 ∷ [])
    -- 9. 6D80, ER0=00FFEF12: EF10 stored at FFEF10
    ∷ one_step (0x6D ∷ 0x80 ∷ []) (registers 0x00FFEF12 0 0 0x00) (0x00 ∷ 0x00 ∷ []) (registers 0x00FFEF10 0 2 0x08) 6 (Ok tt) (0xEF ∷ 0x10 ∷ [])
    -- 10. read-only bytes 4702 0B50 5470, entry 0: 16 (and entry 2: 12); table whole: 16, 12, 10, each with 16,777,215
    ∷ figures (0x47 ∷ 0x02 ∷ 0x0B ∷ 0x50 ∷ 0x54 ∷ 0x70 ∷ []) 0 (7 ∷ 7 ∷ 7 ∷ 7 ∷ 7 ∷ 7 ∷ []) (Ok 16)
    (16 ∷ 16777215 ∷ 12 ∷ 16777215 ∷ 10 ∷ 16777215 ∷ [])
    ∷ figures (0x47 ∷ 0x02 ∷ 0x0B ∷ 0x50 ∷ 0x54 ∷ 0x70 ∷ []) 2 (7 ∷ 7 ∷ 7 ∷ 7 ∷ 7 ∷ 7 ∷ []) (Ok 12)
    (16 ∷ 16777215 ∷ 12 ∷ 16777215 ∷ 10 ∷ 16777215 ∷ [])
    -- 11. 40FE, entry 0: refusal 10 at 0
    ∷ figures (0x40 ∷ 0xFE ∷ []) 0 (7 ∷ 7 ∷ []) (Err (NotUpward 0)) (0 ∷ 0 ∷ [])
    -- 12. 0B50 alone, entry 0: refusal 2 at 2; table 0, 2 (what stands past it stays)
    ∷ figures (0x0B ∷ 0x50 ∷ []) 0 (7 ∷ 7 ∷ 9 ∷ []) (Err (FetchOutside 2)) (0 ∷ 2 ∷ 9 ∷ [])
    ∷ []
