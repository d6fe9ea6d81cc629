-- However a recording is cut, once the end is declared it is replayed as it is whole (document 02, W8). Assumes nothing.
use Rattle.std.specs.Prelude.{Some}
use mathlib.Core.Path.{◌≡◌, refl, sym, ◌∙◌, ap}
use mathlib.Core.Bool.{true, false}
use mathlib.Core.List.{List, [], ◌∷◌, ◌++◌}
use Prim.Native.Nat.{ℕ}
use Rattle.refusal.specs.declared.Refusal.TheVariants.{ReplayEnded}
use Rattle.registers.specs.declared.Registers.{Registers}
use Rattle.memory.specs.declared.Board.{Board}
use Rattle.replay.specs.declared.Report.TheVariants.{Halted}
use Rattle.replay.specs.declared.Stage.{Stage}
use Rattle.replay.specs.declared.Stage.TheVariants.{Version, Records, Told, Closed}
use Rattle.replay.specs.declared.Standing.{Standing}
use Rattle.replay.specs.Replay.{Moment, moment, byte_taken, ended, end_of, ended_of, closed, fed, begun, replay_of}
use Rattle.replay.specs.Cuts.{Arrived, arrived, delivered, took, stage_arrived, deliver_of, deliveries, joined}
use Rattle.replay.specs.MirrorReplay.{over_of}
use Rattle.replay.proofs.Bytes.{no_true, told_stays}

module _ (b : Board) (rom : List ℕ) where
  fed_both : (s : Moment) (xs ys : List ℕ) → fed b rom s (xs ++ ys) ≡ fed b rom (fed b rom s xs) ys
  unfolding fed
  fed_both s [] ys = refl
  fed_both s (x ∷ xs) ys = fed_both (byte_taken b rom s x) xs ys

  abbrev left : Arrived → Moment
  left a = moment a.answer.replay a.mem

  -- a delivery leaves what its bytes do; where it is refused they would do nothing either
  by_stage : (g : Stage) (s : Moment) (d : List ℕ) → (over_of g ≡ true → fed b rom s d ≡ s) → left (stage_arrived b rom g s d) ≡ fed b rom s d
  unfolding stage_arrived
  by_stage Version s d h = refl
  by_stage (Records p) s d h = refl
  by_stage (Told t) s d h = sym (h refl)
  by_stage Closed s d h = sym (h refl)

  -- what a delivery is, by whether the replay is over
  pub late : (g : Stage) (s : Moment) (d : List ℕ) → over_of g ≡ true → stage_arrived b rom g s d ≡ arrived (delivered s.replay (Some (Halted ReplayEnded))) s.mem
  unfolding stage_arrived
  late Version s d h = no_true h
  late (Records p) s d h = no_true h
  late (Told t) s d h = refl
  late Closed s d h = refl

  pub in_time : (g : Stage) (s : Moment) (d : List ℕ) → over_of g ≡ false → stage_arrived b rom g s d ≡ took b rom (fed b rom s d)
  unfolding stage_arrived
  in_time Version s d h = refl
  in_time (Records p) s d h = refl
  in_time (Told t) s d h = no_true (sym h)
  in_time Closed s d h = no_true (sym h)

  each : (s : Moment) (d : List ℕ) → left (deliver_of b rom s d) ≡ fed b rom s d
  each s d = by_stage s.replay.stage s d (λ h. told_stays b rom s d h)

  in_turn : (s : Moment) (ds : List (List ℕ)) → deliveries b rom s ds ≡ fed b rom s (joined ds)
  unfolding deliveries joined fed
  in_turn s [] = refl
  in_turn s (d ∷ ds) = ap (λ (t : Moment). deliveries b rom t ds) (each s d) ∙ (in_turn (fed b rom s d) ds ∙ sym (fed_both s d (joined ds)))

  pub cuts : (ram : List ℕ) (r : Registers) (ds : List (List ℕ)) → closed (deliveries b rom (moment (begun b rom ram r) ram) ds) ≡ replay_of b rom ram r (joined ds)
  unfolding replay_of
  cuts ram r ds = ap (λ (s : Moment). closed s) (in_turn (moment (begun b rom ram r) ram) ds)

-- a second end is 20 and changes nothing
pub second_end : (k : Standing) → ended_of (ended_of k).replay ≡ ended (ended_of k).replay (Halted ReplayEnded)
unfolding ended_of end_of
second_end k = refl

-- an end after a difference or a refusal repeats its report, and a delivery after it is 20 and changes nothing
module _ (b : Board) (rom : List ℕ) (s : Moment) (d : List ℕ) where
  pub after_end : deliver_of b rom (moment (ended_of s.replay).replay s.mem) d ≡ arrived (delivered (ended_of s.replay).replay (Some (Halted ReplayEnded))) s.mem
  unfolding ended_of stage_arrived
  after_end = refl
