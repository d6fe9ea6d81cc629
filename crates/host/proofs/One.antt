-- Each contract of host/h8.h leaves one answer: what two calls with the same input return, and leave in the lent arrays, is the same.
use mathlib.Core.Path.{◌≡◌, refl, sym, ap, subst, ◌∙◌}
use mathlib.Core.List.{List}
use Prim.Native.Nat.{ℕ}
use native.Mathlib.Omega.{arith}
use Rattle.codes.specs.Exact.{Bytes, Encodes}
use Rattle.decoder.proofs.Laws.{decodes_one}
use Rattle.encoder.proofs.Laws.{encodes_one}
use Rattle.layout.specs.Names.{Instruction}
use Rattle.figure.proofs.Answered.{figured_one}
use Rattle.host.specs.Codes.{decode_left, DecodeCall, untold, fields_short, decoded, Spells, EncodeCall, answer_short, unspelt, encoded}
use Rattle.host.specs.Steps.{step_call, run_call}
use Rattle.host.specs.Replays.{replay_call}
use Rattle.host.specs.Cuts.{begin_call, take_call, end_call}
use Rattle.host.specs.Routines.{routine_call}
use Rattle.host.specs.Figures as figures
use Rattle.host.specs.Figures.{FigureCall, figured, way_call}
use Rattle.host.proofs.Coded.{spells_names}

-- a promise of an answer leaves one
abbrev pub One : {A : Type 0} → (A → Type 0) → Type 0
One {A} P = (x y : A) → P x → P y → x ≡ y

-- a promise that is an equation
equal : {A : Type 0} (z : A) → One (λ (x : A). x ≡ z)
equal z x y p q = p ∙ sym q

pub decode_one : (bytes fields answer : List ℕ) → One (DecodeCall bytes fields answer)
decode_one bytes fields answer x y (untold h) (untold k) = refl
decode_one bytes fields answer x y (untold h) (fields_short k l) = absurd (omega arith)
decode_one bytes fields answer x y (untold h) (decoded k l d) = absurd (omega arith)
decode_one bytes fields answer x y (fields_short h l) (untold k) = absurd (omega arith)
decode_one bytes fields answer x y (fields_short h l) (fields_short k m) = refl
decode_one bytes fields answer x y (fields_short h l) (decoded k m d) = absurd (omega arith)
decode_one bytes fields answer x y (decoded h l d) (untold k) = absurd (omega arith)
decode_one bytes fields answer x y (decoded h l d) (fields_short k m) = absurd (omega arith)
decode_one bytes fields answer x y (decoded h l d) (decoded k m e) = ap (decode_left fields answer) (decodes_one d e)

spells_one : {fields : List ℕ} {i j : Instruction} → Spells fields i → Spells fields j → i ≡ j
spells_one {fields} s t = cc (spells_names fields s, spells_names fields t)

pub encode_one : (fields out answer : List ℕ) → One (EncodeCall fields out answer)
encode_one fields out answer x y (answer_short h) (answer_short k) = refl
encode_one fields out answer x y (answer_short h) (unspelt k n) = absurd (omega arith)
encode_one fields out answer x y (answer_short h) (encoded k s e) = absurd (omega arith)
encode_one fields out answer x y (unspelt h n) (answer_short k) = absurd (omega arith)
encode_one fields out answer x y (unspelt h n) (unspelt k m) = refl
encode_one fields out answer x y (unspelt h n) (encoded {i} k s e) = absurd (n i s)
encode_one fields out answer x y (encoded h s e) (answer_short k) = absurd (omega arith)
encode_one fields out answer x y (encoded {i} h s e) (unspelt k n) = absurd (n i s)
encode_one fields out answer x y (encoded h s e) (encoded {new = new} {e = r} k t f) =
    let b = encodes_one e (subst (λ (i : Instruction). Encodes i out new r) (spells_one t s) f) in
    cc (b.0, b.1)

pub step_one : (board rom ram regs answer : List ℕ) → One (λ x. x ≡ step_call board rom ram regs answer)
step_one board rom ram regs answer = equal (step_call board rom ram regs answer)

pub run_one : (board rom ram regs : List ℕ) (stop budget : ℕ) (answer : List ℕ) → One (λ x. x ≡ run_call board rom ram regs stop budget answer)
run_one board rom ram regs stop budget answer = equal (run_call board rom ram regs stop budget answer)

pub replay_one : (board rom ram regs file answer : List ℕ) → One (λ x. x ≡ replay_call board rom ram regs file answer)
replay_one board rom ram regs file answer = equal (replay_call board rom ram regs file answer)

pub begin_one : (board rom ram regs replay answer : List ℕ) → One (λ x. x ≡ begin_call board rom ram regs replay answer)
begin_one board rom ram regs replay answer = equal (begin_call board rom ram regs replay answer)

pub take_one : (board rom ram replay bytes answer : List ℕ) → One (λ x. x ≡ take_call board rom ram replay bytes answer)
take_one board rom ram replay bytes answer = equal (take_call board rom ram replay bytes answer)

pub end_one : (replay answer : List ℕ) → One (λ x. x ≡ end_call replay answer)
end_one replay answer = equal (end_call replay answer)

pub routine_one : (board rom ram regs : List ℕ) (stop budget : ℕ) (answer : List ℕ) → One (λ x. x ≡ routine_call board rom ram regs stop budget answer)
routine_one board rom ram regs stop budget answer = equal (routine_call board rom ram regs stop budget answer)

pub figure_one : (board rom : List ℕ) → Bytes rom → (entry : ℕ) (table answer : List ℕ) → One (FigureCall board rom entry table answer)
figure_one board rom bytes entry table answer x y (figures.answer_short h) (figures.answer_short k) = refl
figure_one board rom bytes entry table answer x y (figures.answer_short h) (figured k f) = absurd (omega arith)
figure_one board rom bytes entry table answer x y (figured h f) (figures.answer_short k) = absurd (omega arith)
figure_one board rom bytes entry table answer x y (figured h f) (figured k g) = let b = figured_one bytes f g in cc (b.0, b.1)

-- (that the way is the one that its promise in words leaves is `way_one` of `figure`)
pub way_one : (board rom table : List ℕ) (place : ℕ) (answer : List ℕ) → One (λ x. x ≡ way_call board rom table place answer)
way_one board rom table place answer = equal (way_call board rom table place answer)
