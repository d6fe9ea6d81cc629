-- One byte of a recording, and the rest of it. Assumes nothing.
use Prim.Native.Nat.{ℕ, zero, suc, ◌+◌, ◌≤◌, ◌<◌}
use mathlib.Core.Path.{◌≡◌, refl, sym, ◌∙◌, ap}
use mathlib.Core.Bool.{true, false}
use mathlib.Core.List.{List, [], ◌∷◌}
use native.Mathlib.Numerals.{add-one}
use native.Mathlib.Omega.{arith}
use lib.ListN.{length, take, drop, get_or, drop_of_length-le}
use lib.Seq.{drop-cons}
use Rattle.memory.specs.declared.Board.{Board}
use Rattle.replay.specs.declared.Stage.{Stage}
use Rattle.replay.specs.declared.Stage.TheVariants.{Version, Records, Told, Closed}
use Rattle.replay.specs.declared.Standing.{Standing}
use Rattle.replay.specs.Replay.{Moment, moment, stage_taken, byte_taken, fed}
use Rattle.replay.specs.MirrorReplay.{over_of}

pub no_true : {A : Type 0} → false ≡ true → A
no_true h = absurd (let z : ◌≡◌ {A = ℕ} 0 1 = cc in omega arith)

module _ (b : Board) (rom : List ℕ) where
  pub by_stage : (k : Standing) (ram : List ℕ) (x : ℕ) (g : Stage) (m : Moment) → k.stage ≡ g → m ≡ stage_taken b rom g x k ram → m ≡ byte_taken b rom (moment k ram) x
  by_stage k ram x g m e h = h ∙ ap (λ (s : Stage). stage_taken b rom s x k ram) (sym e)

  pub stays : (g : Stage) (x : ℕ) (k : Standing) (ram : List ℕ) → over_of g ≡ true → stage_taken b rom g x k ram ≡ moment k ram
  unfolding stage_taken
  stays Version x k ram h = no_true h
  stays (Records p) x k ram h = no_true h
  stays (Told t) x k ram h = refl
  stays Closed x k ram h = refl

  -- what is told stays, whatever follows
  pub told_stays : (s : Moment) (xs : List ℕ) → over_of s.replay.stage ≡ true → fed b rom s xs ≡ s
  unfolding fed
  told_stays s [] h = refl
  told_stays s (x ∷ xs) h =
      ap (λ (t : Moment). fed b rom t xs) (stays s.replay.stage x s.replay s.mem h) ∙ told_stays s xs h

  module _ (s : Moment) (bytes : List ℕ) (i : ℕ) where
    -- the byte at i, and then the rest
    pub goes_on : i < length bytes → (t : Moment) → t ≡ byte_taken b rom s (get_or bytes i 0) → fed b rom t (drop (i + 1) bytes) ≡ fed b rom s (drop i bytes)
    unfolding fed
    goes_on l t e = rw (add-one i, drop-cons bytes i 0 l, e)

    pub no_more : length bytes ≤ i → fed b rom s (drop i bytes) ≡ s
    unfolding fed
    no_more l = rw (drop_of_length-le bytes l)

  -- a recording in two parts
  pub parted : (m : ℕ) (s : Moment) (xs : List ℕ) → fed b rom (fed b rom s (take m xs)) (drop m xs) ≡ fed b rom s xs
  unfolding fed
  parted zero s xs = refl
  parted (suc m) s [] = refl
  parted (suc m) s (x ∷ xs) = parted m (byte_taken b rom s x) xs
