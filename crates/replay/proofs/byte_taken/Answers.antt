use Rattle.replay.specs.declared.Standing.{Standing}
use mathlib.Core.Path.{◌≡◌, sym, ap}
use mathlib.Core.Bool.{true}
use mathlib.Core.Logic.{◌⊎◌, inl, inr}
use Rattle.replay.proofs.Bytes.{by_stage, stays}
use Rattle.replay.specs.Replay.{moment, stage_taken}
use Rattle.replay.specs.MirrorReplay.{over_of}
use Rattle.replay.specs.declared.Report.{Report}
use Rattle.replay.specs.declared.Stage.{Stage}
use Rattle.replay.specs.declared.Stage.TheVariants.{Told, Closed}
use Rattle.replay.proofs.byte_taken.Goals as goal

pub returns-in-Version : goal.returns-in-Version
unfolding stage_taken
returns-in-Version c = let a = c.args in by_stage a.b a.rom.now a.k a.ram.now a.x _ _ c.in-Version.is (ap (λ (q : Standing). moment q a.ram.now) c.first_byte.ensures)

pub returns-in-Records : goal.returns-in-Records
unfolding stage_taken
returns-in-Records c = let a = c.args in by_stage a.b a.rom.now a.k a.ram.now a.x _ _ c.in-Records.is c.record_byte.ensures

over_told : (g : Stage) → ((t : Report) × (g ≡ Told t)) ⊎ (g ≡ Closed) → over_of g ≡ true
over_told g (inl (t, e)) = rw e
over_told g (inr e) = rw e

pub returns-in-Told : goal.returns-in-Told
returns-in-Told c = let a = c.args in sym (stays a.b a.rom.now a.k.stage a.x a.k a.ram.now (over_told a.k.stage c.in-Told.is))
