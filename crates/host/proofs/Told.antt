-- What is returned and the answer, put beside what else was lent.
use Rattle.std.specs.Prelude.{Result}
use mathlib.Core.Path.{◌≡◌, refl, sym, ap, subst, ◌∙◌}
use mathlib.Core.List.{List, [], ◌∷◌, ◌++◌}
use Prim.Native.Nat.{ℕ, ◌+◌, ◌-◌, ◌≤◌}
use native.Mathlib.Omega.{arith}
use lib.ListN.{length, get_or, drop}
use lib.Seq.{sets, drop-drop}
use borrow.Rule.Slice.PartMut.{put_mid}
use Rattle.refusal.specs.declared.Refusal.{Refusal}
use Rattle.site.specs.declared.Site.{Site}
use Rattle.layout.specs.Board.{site_of}
use Rattle.layout.specs.Lent.{overwrite}
use Rattle.layout.proofs.Stored.{stored}
use Rattle.figure.specs.Answer.{Figured}
use Rattle.host.specs.Answers.{Noted, noted, refused_with, tell}
use Rattle.host.specs.declared.answers.Head.{Head}
use Rattle.host.specs.MirrorAnswers.{head_of, headed, behind}
use Rattle.host.specs.Codes.{decoding, with_fields}
use Rattle.host.specs.Steps.{left, leaving}
use Rattle.host.specs.MirrorSteps.{Kept, kept, keeping}
use Rattle.host.specs.Figures.{Figuring, figuring, with_table, figure_told, FigureCall, figured}

-- numbers stored one after the other are told
pub stored_told : (xs l : List ℕ) {after : List ℕ} → length xs ≤ length l → after ≡ sets l 0 xs → noted (get_or xs 0 0) after ≡ tell xs l
unfolding tell
stored_told xs l h e = ap (noted (get_or xs 0 0)) (e ∙ stored xs l h)

-- an answer put in two parts is put whole
pub in_parts : {A : Type 0} {a b c x y z : A} (more old : List A) {first second : List A} → first ≡ x ∷ y ∷ z ∷ [] → x ≡ a → y ≡ b → z ≡ c → second ≡ more
    → put_mid 3 (3 + length more - 3) (first ++ drop 3 old) second ≡ a ∷ b ∷ c ∷ (more ++ drop (3 + length more) old)
in_parts more old p ea eb ec q =
    let n : 3 + length more - 3 ≡ length more = omega arith in
    rw (p, ea, eb, ec, q, n, drop-drop (length more) 3 old)

-- a head and the numbers behind it are told
module _ {h : Head} {n : ℕ} (more old : List ℕ) {new : List ℕ} (p : n ≡ h.number) (q : new ≡ behind (λ (x : ℕ). x) h more old) where
  pub headed_told : noted n new ≡ tell (headed (λ (x : ℕ). x) h more) old
  unfolding tell overwrite
  headed_told =
      let e : 3 + length more ≡ length (h.number ∷ h.place ∷ h.group ∷ more) = omega arith in
      rw (p, q) (ap (λ (k : ℕ). noted h.number (h.number ∷ h.place ∷ h.group ∷ (more ++ drop k old))) e)

  pub refused_told : (f : Refusal) → h ≡ head_of f → noted n new ≡ tell (refused_with f more) old
  refused_told f e = headed_told ∙ rw e refl

module _ {n : ℕ} {a : List ℕ} {t : Noted} (e : noted n a ≡ t) where
  abbrev e_returned : n ≡ t.returned
  e_returned = ap (λ (m : Noted). m.returned) e

  abbrev e_answer : a ≡ t.answer
  e_answer = ap (λ (m : Noted). m.answer) e

  pub fill : {x y : List ℕ} → x ≡ y → decoding n x a ≡ with_fields y t
  fill p = cc (p, e_returned, e_answer)

  pub keep : {x y : List ℕ} → x ≡ y → kept n x a ≡ keeping y t
  keep p = cc (p, e_returned, e_answer)

  pub leave : {x y r s : List ℕ} → x ≡ y → r ≡ s → left n x r a ≡ leaving y s t
  leave p q = cc (p, q, e_returned, e_answer)

pub beside : {n : ℕ} {a x y : List ℕ} {t : Noted} (m : List ℕ) → kept n x a ≡ keeping y t → left n m x a ≡ leaving m y t
beside m e = cc (ap (λ (k : Kept). k.returned) e, ap (λ (k : Kept). k.regs) e, ap (λ (k : Kept). k.answer) e)

pub figure_call : {k : Site} {board rom table after answer new : List ℕ} {entry n : ℕ} {v : Result ℕ Refusal} → k ≡ site_of board → 4 ≤ length answer
    → Figured k rom entry table v after → noted n new ≡ figure_told v answer → FigureCall board rom entry table answer (figuring n after new)
figure_call {k} {board} {rom} {table} {after} {answer} {new} {entry} {n} {v} s h f e =
    let q : figuring n after new ≡ with_table after (figure_told v answer) = cc (e_returned e, e_answer e) in
    subst (λ (x : Figuring). FigureCall board rom entry table answer x) (sym q) (figured h (subst (λ (x : Site). Figured x rom entry table v after) s f))
