-- host/h8.h, h8_figure and h8_way: what they return and leave in the lent arrays.
use Rattle.std.specs.Prelude.{ℕ, ◌≤◌, ◌<◌, ◌≡◌, ◌⊎◌, ◌↔◌, cond, List, [], ◌∷◌, ltb, length, get_or, Result, Ok, Err, Option, Some, None}
use Rattle.refusal.specs.declared.Refusal.{Refusal}
use Rattle.figure.specs.Answer.{asked_of, Figured}
use Rattle.figure.specs.Bound.{RunsKept}
use Rattle.figure.specs.MirrorFigure.{way_of}
use Rattle.listing.specs.Listing.{flow_at}
use Rattle.paths.specs.Paths.{Meets, Over}
use Rattle.layout.specs.Board.{site_of}
use Rattle.host.specs.Answers.{Noted, noted, completed, tell, refuse}

-- ---- h8_figure

-- what is returned, and the table and the answer afterwards
pub record Figuring : Type 0 where
  pub returned : ℕ
  pub table : List ℕ
  pub answer : List ℕ

abbrev pub figuring : ℕ → List ℕ → List ℕ → Figuring
figuring n t a = record { returned = n; table = t; answer = a }

abbrev pub with_table : List ℕ → Noted → Figuring
with_table table n = figuring n.returned table n.answer

-- [0, 0, 0, figure], or a refusal
unfoldable pub figure_told : Result ℕ Refusal → List ℕ → Noted
figure_told (Ok n) answer = tell (completed (n ∷ [])) answer
figure_told (Err f) answer = refuse f answer

-- 13 for the answer; then what the figure of the routine promises (`Figured`)
pub data FigureCall (board rom : List ℕ) (entry : ℕ) (table answer : List ℕ) : Figuring → Type 0 where
  answer_short : length answer < 4 → FigureCall board rom entry table answer (figuring 13 table answer)
  figured : {v : Result ℕ Refusal} {after : List ℕ} → 4 ≤ length answer → Figured (site_of board) rom entry table v after
      → FigureCall board rom entry table answer (with_table after (figure_told v answer))

-- with room for the answer, and the area, the memory, the entry and the table fit, a refusal is returned exactly when a path meets a forbidden place, or none
-- does and the largest total is above 1,000,000,000
abbrev pub FigureExactly : List ℕ → List ℕ → ℕ → List ℕ → List ℕ → ℕ → Type 0
FigureExactly board rom entry table answer returned =
    4 ≤ length answer → asked_of (site_of board) (length rom) (length table) entry ≡ Ok tt
    → (returned ≡ 0 → ⊥) ↔ (((f : ℕ) × Meets (flow_at (site_of board) rom) 8 entry f) ⊎ Over (flow_at (site_of board) rom) entry)

-- demand 3: where 0 is returned, every run on every good board with that code and that area keeps to answer[3]
abbrev pub FigureKept : List ℕ → List ℕ → ℕ → ℕ → List ℕ → Type 0
FigureKept board rom entry returned answer = returned ≡ 0 → RunsKept (site_of board) rom entry (Ok (get_or answer 3 0))

-- ---- h8_way

-- [0, 0, 0, next place], 16,777,215 for a return; or a refusal
unfoldable pub way_told : Result (Option ℕ) Refusal → List ℕ → Noted
way_told (Ok (Some p)) answer = tell (completed (p ∷ [])) answer
way_told (Ok None) answer = tell (completed (16777215 ∷ [])) answer
way_told (Err f) answer = refuse f answer

-- 13 for the answer; then the way. What that is, `WayTold` says.
unfoldable pub way_call : List ℕ → List ℕ → List ℕ → ℕ → List ℕ → Noted
way_call board rom table place answer = cond (ltb (length answer) 4) (noted 13 answer) (way_told (way_of (site_of board) rom table place) answer)
