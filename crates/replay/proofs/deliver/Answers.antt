use Rattle.replay.specs.Cuts.{took}
use mathlib.Core.Path.{sym, ◌∙◌, ap}
use Rattle.replay.proofs.Cut.{late, in_time}
use Rattle.replay.specs.Replay.{Moment, moment}
use Rattle.replay.proofs.deliver.Goals as goal

-- src/lib.rt:327:9
pub returns-then-late : goal.returns-then-late
returns-then-late c = let a = c.args in sym (late a.b a.rom.now a.k.stage (moment a.k a.ram.now) a.bytes.now (sym c.over-late.ensures ∙ c.if-late.true))

-- src/lib.rt:322:1
pub returns : goal.returns
returns c = let a = c.args in rw c.said_of-s.ensures (ap (λ (s : Moment). took a.b a.rom.now s) c.feed-q.ensures ∙ sym (in_time a.b a.rom.now a.k.stage (moment a.k a.ram.now) a.bytes.now (sym c.over-late.ensures ∙ c.if-late.false)))
