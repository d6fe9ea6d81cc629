-- What `figure` promises of its answer, told in numbers.
use Rattle.std.specs.Prelude.{Result, Ok, Err}
use mathlib.Core.Path.{◌≡◌, refl, ap, subst}
use mathlib.Core.List.{List}
use Prim.Native.Nat.{ℕ, ◌≤◌}
use native.Mathlib.Omega.{arith}
use lib.ListN.{get_or}
use Rattle.refusal.specs.Refusals.{number_of}
use Rattle.refusal.specs.declared.Refusal.{Refusal}
use Rattle.refusal.specs.declared.Refusal.TheVariants.{BadBoard, FetchOutside, UnknownCode, CutShort, ReadOutside, WriteOutside, NoAdjustRow, BadEntry, NotFollowed, NotUpward, NotInstruction, BudgetTooLarge, LentTooShort, DivideFails, LeftOut, TooDeep, BadVersion, BadLength, Unfinished, ReplayEnded, TooLong}
use Rattle.site.specs.declared.Site.{Site}
use Rattle.figure.specs.Answer.{RefusedExactly}
use Rattle.figure.specs.Bound.{RunsKept}
use Rattle.layout.specs.Board.{site_of}
use Rattle.layout.specs.Lent.{overwrite}
use Rattle.host.specs.Answers.{Noted, noted, tell, refuse}
use Rattle.host.specs.Figures.{figure_told, FigureExactly, FigureKept}

-- no refusal has the number 0
pub numbered : (f : Refusal) → 1 ≤ number_of f
numbered BadBoard = omega arith
numbered (FetchOutside p) = omega arith
numbered (UnknownCode p) = omega arith
numbered (CutShort p) = omega arith
numbered (ReadOutside p) = omega arith
numbered (WriteOutside p) = omega arith
numbered (NoAdjustRow p) = omega arith
numbered (BadEntry p) = omega arith
numbered (NotFollowed p) = omega arith
numbered (NotUpward p) = omega arith
numbered NotInstruction = omega arith
numbered BudgetTooLarge = omega arith
numbered (LentTooShort n) = omega arith
numbered (DivideFails p) = omega arith
numbered (LeftOut x) = omega arith
numbered (TooDeep p) = omega arith
numbered BadVersion = omega arith
numbered (BadLength p) = omega arith
numbered (Unfinished p) = omega arith
numbered ReplayEnded = omega arith
numbered (TooLong p) = omega arith

module _ (answer : List ℕ) {new : List ℕ} {n : ℕ} where
  returned_figure : (k : ℕ) → noted n new ≡ figure_told (Ok k) answer → n ≡ 0
  unfolding figure_told tell
  returned_figure k e = ap (λ (m : Noted). m.returned) e

  answered_figure : (k : ℕ) → noted n new ≡ figure_told (Ok k) answer → get_or new 3 0 ≡ k
  unfolding figure_told tell overwrite
  answered_figure k e = ap (λ (m : Noted). get_or m.answer 3 0) e

  returned_refusal : (f : Refusal) → noted n new ≡ figure_told (Err f) answer → n ≡ 0 → ⊥
  unfolding figure_told refuse tell
  returned_refusal f e z = let x : n ≡ number_of f = ap (λ (m : Noted). m.returned) e in omega (arith, numbered f)

  module _ (board rom : List ℕ) (entry : ℕ) where
    exactly : (table : List ℕ) (v : Result ℕ Refusal) → noted n new ≡ figure_told v answer → RefusedExactly (site_of board) rom entry table v
        → FigureExactly board rom entry table answer n
    exactly table (Ok k) e x h fit =
        ((λ some. absurd (some (returned_figure k e))), (λ met. absurd (let z : ◌≡◌ {A = ℕ} 0 1 = cc ((x fit).1 met).1 in omega arith)))
    exactly table (Err f) e x h fit = ((λ some. (x fit).0 (f, refl)), (λ met. returned_refusal f e))

    kept : (v : Result ℕ Refusal) → noted n new ≡ figure_told v answer → RunsKept (site_of board) rom entry v → FigureKept board rom entry n new
    kept (Ok k) e runs zero = rw (answered_figure k e) runs
    kept (Err f) e runs zero = absurd (returned_refusal f e zero)

    -- the site that was read from the board
    module _ {k : Site} (s : k ≡ site_of board) (v : Result ℕ Refusal) (e : noted n new ≡ figure_told v answer) where
      pub figure_exactly : (table : List ℕ) → RefusedExactly k rom entry table v → FigureExactly board rom entry table answer n
      figure_exactly table x = exactly table v e (subst (λ (j : Site). RefusedExactly j rom entry table v) s x)

      pub figure_kept : RunsKept k rom entry v → FigureKept board rom entry n new
      figure_kept runs = kept v e (subst (λ (j : Site). RunsKept j rom entry v) s runs)
