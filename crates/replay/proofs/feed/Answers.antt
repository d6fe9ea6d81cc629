use Prim.Native.Nat.{◌-◌}
use mathlib.Core.Path.{sym, ◌∙◌, ap}
use native.Mathlib.Nat.{le_refl}
use native.Mathlib.Omega.{arith}
use lib.ListN.{length, drop, length-drop}
use lib.Seq.{take_all, length-take-le}
use Rattle.replay.specs.Replay.{Moment, moment, fed}
use Rattle.replay.specs.MirrorReplay.{ahead_of}
use Rattle.replay.proofs.Bytes.{parted}
use Rattle.replay.proofs.Passes.{fits}
use Rattle.replay.proofs.feed.Goals as goal

pub slice_bounds-one_by_one-end : goal.slice_bounds-one_by_one-end
slice_bounds-one_by_one-end c = let a = c.args in let h = fits (ahead_of a.k.stage) (length a.bytes.now) in sym (length-take-le c.missing-m.result a.bytes.now (omega (arith, h, c.missing-m.ensures)))

pub slice_bounds-from_record-count : goal.slice_bounds-from_record-count
slice_bounds-from_record-count c = let a = c.args in let h = fits (ahead_of a.k.stage) (length a.bytes.now) in let e = c.missing-m.ensures in omega (arith, h, e)

pub slice_bounds-from_record-start : goal.slice_bounds-from_record-start
slice_bounds-from_record-start c = let a = c.args in let h = fits (ahead_of a.k.stage) (length a.bytes.now) in let e = c.missing-m.ensures in omega (arith, h, e)

pub returns : goal.returns
returns c = let a = c.args in let m = c.missing-m.result in rw (take_all (length a.bytes.now - m) (drop m a.bytes.now) (simp length-drop (le_refl _))) at c.from_record.ensures ∙ (ap (λ (s : Moment). fed a.b a.rom.now s (drop m a.bytes.now)) c.one_by_one-q.ensures ∙ parted a.b a.rom.now m (moment a.k a.ram.now) a.bytes.now)
