use Prim.Native.Nat.{◌-◌, ◌*◌}
use mathlib.Core.Path.{◌≡◌, sym, ◌∙◌, ap}
use mathlib.Core.Bool.{true, ◌&&◌}
use lib.Dec.{leb, ltb}
use native.Mathlib.Nat.{le_refl}
use native.Mathlib.Omega.{arith}
use borrow.Author.Tests.{leb-true, ltb-true}
use lib.ListN.{length, drop, length-drop}
use lib.Seq.{take_all}
use Rattle.run.specs.MirrorAlong.{along_of}
use Rattle.run.proofs.Turns.{both}
use Rattle.replay.specs.Replay.{Moment}
use Rattle.replay.specs.MirrorReplay.{fresh_of}
use Rattle.replay.proofs.Passes.{passed_bytes, passes}
use Rattle.replay.proofs.from_record.Goals as goal

pub passed-q-requires : goal.passed-q-requires
passed-q-requires c = let a = c.args in let g : (fresh_of a.k.stage && leb a.k.steps 1000000) && ltb a.k.states 4294967296 ≡ true = cc in let w = both (fresh_of a.k.stage && leb a.k.steps 1000000) (ltb a.k.states 4294967296) g in let y = both (fresh_of a.k.stage) (leb a.k.steps 1000000) w.0 in let few = leb-true a.k.steps 1000000 y.1 in let small = ltb-true a.k.states 4294967296 w.1 in (few, small)

pub overflow_sub-i : goal.overflow_sub-i
overflow_sub-i c = let e = ap (λ (m : Moment). m.replay.steps) c.passed-q.ensures in omega (arith, e)

pub slice_bounds-one_by_one-count : goal.slice_bounds-one_by_one-count
slice_bounds-one_by_one-count c = let a = c.args in let g : (fresh_of a.k.stage && leb a.k.steps 1000000) && ltb a.k.states 4294967296 ≡ true = cc in let w = both (fresh_of a.k.stage && leb a.k.steps 1000000) (ltb a.k.states 4294967296) g in let y = both (fresh_of a.k.stage) (leb a.k.steps 1000000) w.0 in let few = leb-true a.k.steps 1000000 y.1 in let small = ltb-true a.k.states 4294967296 w.1 in let e = ap (λ (m : Moment). m.replay.steps) c.passed-q.ensures in omega (arith, e, passed_bytes a.b a.rom.now a.bytes.now a.k a.ram.now few small)

pub slice_bounds-one_by_one-start : goal.slice_bounds-one_by_one-start
slice_bounds-one_by_one-start c = let a = c.args in let g : (fresh_of a.k.stage && leb a.k.steps 1000000) && ltb a.k.states 4294967296 ≡ true = cc in let w = both (fresh_of a.k.stage && leb a.k.steps 1000000) (ltb a.k.states 4294967296) g in let y = both (fresh_of a.k.stage) (leb a.k.steps 1000000) w.0 in let few = leb-true a.k.steps 1000000 y.1 in let small = ltb-true a.k.states 4294967296 w.1 in let e = ap (λ (m : Moment). m.replay.steps) c.passed-q.ensures in omega (arith, e, passed_bytes a.b a.rom.now a.bytes.now a.k a.ram.now few small)

pub returns-then-quick : goal.returns-then-quick
returns-then-quick c = let a = c.args in let g : (fresh_of a.k.stage && leb a.k.steps 1000000) && ltb a.k.states 4294967296 ≡ true = cc in let w = both (fresh_of a.k.stage && leb a.k.steps 1000000) (ltb a.k.states 4294967296) g in let y = both (fresh_of a.k.stage) (leb a.k.steps 1000000) w.0 in let few = leb-true a.k.steps 1000000 y.1 in let small = ltb-true a.k.states 4294967296 w.1 in let e = ap (λ (m : Moment). m.replay.steps) c.passed-q.ensures in let n = (along_of a.b a.rom.now a.ram.now a.k.regs (1000000 - a.k.steps) a.bytes.now a.k.states).answer.steps in let i : (c.passed-q.result.steps - a.k.steps) * 11 ≡ n * 11 = omega (arith, e) in rw (i, take_all (length a.bytes.now - n * 11) (drop (n * 11) a.bytes.now) (simp length-drop (le_refl _)), c.passed-q.ensures) at c.one_by_one.ensures ∙ sym (passes a.b a.rom.now a.bytes.now a.k a.ram.now few small y.0)
