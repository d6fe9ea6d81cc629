-- Recordings that arrive in cuts (document 02, W8): deliveries are taken in turn, the replay carried in a value and the memories untouched between.
use Rattle.std.specs.Prelude.{ℕ, List, [], ◌∷◌, ◌++◌, Option, Some, None}
use Rattle.replay.specs.declared.Report.{Report}
use Rattle.refusal.specs.declared.Refusal.TheVariants.{ReplayEnded}
use Rattle.memory.specs.declared.Board.{Board}
use Rattle.replay.specs.declared.Report.TheVariants.{Halted}
use Rattle.replay.specs.declared.Stage.{Stage}
use Rattle.replay.specs.declared.Stage.TheVariants.{Version, Records, Told, Closed}
use Rattle.replay.specs.declared.Standing.{Standing}
use Rattle.replay.specs.declared.Delivered.{Delivered}
use Rattle.replay.specs.Replay.{Moment, moment, fed}

-- what a delivery came to: a difference or a refusal is said at once; else more may come, and a missing end is no matter yet
unfoldable pub said_of : Stage → Option Report
said_of Version = None
said_of (Records p) = None
said_of (Told t) = Some t
said_of Closed = Some (Halted ReplayEnded)

-- a delivery's answer, and working memory after it
pub record Arrived : Type 0 where
  pub answer : Delivered
  pub mem : List ℕ

abbrev pub arrived : Delivered → List ℕ → Arrived
arrived a m = record { answer = a; mem = m }

abbrev pub delivered : Standing → Option Report → Delivered
delivered k s = record { replay = k; said = s }

module _ (b : Board) (rom : List ℕ) where
  abbrev pub took : Moment → Arrived
  took s = arrived (delivered s.replay (said_of s.replay.stage)) s.mem

  -- after the end, a difference or a refusal a delivery, an empty one too, is 20 and changes nothing
  unfoldable pub stage_arrived : Stage → Moment → List ℕ → Arrived
  stage_arrived Version s bytes = took (fed b rom s bytes)
  stage_arrived (Records p) s bytes = took (fed b rom s bytes)
  stage_arrived (Told t) s bytes = arrived (delivered s.replay (Some (Halted ReplayEnded))) s.mem
  stage_arrived Closed s bytes = arrived (delivered s.replay (Some (Halted ReplayEnded))) s.mem

  abbrev pub deliver_of : Moment → List ℕ → Arrived
  deliver_of s bytes = stage_arrived s.replay.stage s bytes

  -- deliveries in turn
  unfoldable pub deliveries : Moment → List (List ℕ) → Moment
  deliveries s [] = s
  deliveries s (d ∷ ds) = deliveries (moment (deliver_of s d).answer.replay (deliver_of s d).mem) ds

-- the recording that was cut
unfoldable pub joined : List (List ℕ) → List ℕ
joined [] = []
joined (d ∷ ds) = d ++ joined ds
