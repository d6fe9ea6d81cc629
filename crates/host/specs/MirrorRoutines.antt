-- The same as the code finds it. Nothing to believe.
use Rattle.std.specs.Prelude.{ℕ}
use Rattle.routine.specs.declared.Ending.{Ending}
use Rattle.routine.specs.declared.Ending.TheVariants.{AtStop, Spent, Halted, Returned, Ninth, Elsewhere}
use Rattle.host.specs.declared.answers.Head.{Head}
use Rattle.host.specs.MirrorAnswers.{done, head_of}

-- the head of an ending, and its number
unfoldable pub numbered_ending : Ending → Head × ℕ
numbered_ending AtStop = (done, 0)
numbered_ending Spent = (done, 1)
numbered_ending (Halted f) = (head_of f, 2)
numbered_ending Returned = (done, 3)
numbered_ending Ninth = (done, 4)
numbered_ending Elsewhere = (done, 5)
