use mathlib.Core.Path.{refl, sym, ◌∙◌}
use borrow.Author.Rules.{rules}
use lib.ListN.{drop}
use Rattle.replay.specs.Replay.{moment}
use Rattle.replay.proofs.Bytes.{told_stays, goes_on, no_more}
use Rattle.replay.proofs.one_by_one.Goals as goal

pub loop-x-init : goal.loop-x-init
loop-x-init c = (search rules, refl)

pub loop-x-preserved : goal.loop-x-preserved
loop-x-preserved c = let a = c.args in let s = c.loop-x in (search rules, goes_on a.b a.rom.now (moment s.q s.ram) a.bytes.now s.x-index (search rules) _ c.byte_taken-q.ensures ∙ s.invariant.1)

pub returns-after-loop-x : goal.returns-after-loop-x
returns-after-loop-x c = let a = c.args in let s = c.loop-x in sym (no_more a.b a.rom.now (moment s.q s.ram) a.bytes.now s.x-index (search rules)) ∙ s.invariant.1

pub returns-then-over : goal.returns-then-over
returns-then-over c = let a = c.args in let s = c.loop-x in sym (told_stays a.b a.rom.now (moment s.q s.ram) (drop s.x-index a.bytes.now) (sym c.over.ensures ∙ c.if-over.true)) ∙ s.invariant.1
