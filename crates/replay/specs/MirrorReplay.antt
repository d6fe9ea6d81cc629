-- Where the loop over the bytes stops early, and whole records taken at once. Nothing here is to be believed.
use Rattle.std.specs.Prelude.{ℕ, ◌+◌, ◌-◌, ◌%◌, Bool, true, false, cond, ◌&&◌, List, eqb, ltb}
use Rattle.memory.specs.declared.Board.{Board}
use Rattle.run.specs.Run.{Ran}
use Rattle.run.specs.MirrorAlong.{along_of}
use Rattle.replay.specs.declared.Standing.{Standing}
use Rattle.replay.specs.Replay.{Moment, moment, nothing, standing}
use Rattle.replay.specs.declared.Stage.{Stage}
use Rattle.replay.specs.declared.Stage.TheVariants.{Version, Records, Told, Closed}

abbrev pub over_of : Stage → Bool
over_of Version = false
over_of (Records p) = false
over_of (Told t) = true
over_of Closed = true

-- nothing is read of the next record
abbrev pub fresh_of : Stage → Bool
fresh_of Version = false
fresh_of (Records p) = (((eqb p.count 0 && eqb p.size 0) && eqb p.pc 0) && eqb p.condition 0) && eqb p.states 0
fresh_of (Told t) = false
fresh_of Closed = false

abbrev pub ahead_of : Stage → ℕ
ahead_of Version = 1
ahead_of (Records p) = (11 - p.count % 11) % 11
ahead_of (Told t) = 0
ahead_of Closed = 0

-- how many of n bytes come before the next record
abbrev pub missing_of : Stage → ℕ → ℕ
missing_of g n = cond (ltb (ahead_of g) n) (ahead_of g) n

-- where a run beside the records ended, after so many steps
abbrev pub beyond : ℕ → Ran → Moment
beyond steps a = moment (standing a.answer.regs (steps + a.answer.steps) a.answer.states (Records nothing)) a.mem

abbrev pub passed_of : Board → List ℕ → Standing → List ℕ → List ℕ → Moment
passed_of b rom k ram bytes = beyond k.steps (along_of b rom ram k.regs (1000000 - k.steps) bytes k.states)
