use Prim.Native.Nat.{◌%◌}
use mathlib.Core.Path.{refl, ◌∙◌}
use borrow.Author.Tests.{ne_eqb}
use Rattle.arith.specs.declared.Width.TheVariants.{Word}
use Rattle.entry.specs.Entry.{dir_of, moved, move_by}
use Rattle.transfer.specs.MirrorTransfer.{low_of, high_of}
use Rattle.transfer.proofs.Laws.{aimed_moves, aimed_trail}
use Rattle.transfer.proofs.moving.word.Goals as goal

pub returns-then-k-eq1 : goal.returns-then-k-eq1
unfolding moved move_by low_of high_of
returns-then-k-eq1 c = rw c.if-k-eq1.true c.step_word.ensures

pub returns-else-k-eq1 : goal.returns-else-k-eq1
unfolding moved move_by low_of high_of
returns-else-k-eq1 c = let a = c.args in record { did = (rw c.aimed.ensures at (c.transfer_word.ensures.did a.pc)) ∙ aimed_moves (dir_of a.k) Word a.er.now a.pc a.f a.b a.rom.now a.ram.now 16 2 2 a.x (λ y. refl) (λ y. refl) (λ e. refl) (λ e d. refl) (λ e. refl) (λ e. refl) (λ e. refl) (a.k % 8) (ne_eqb _ _ c.if-k-eq1.false); told = λ pc o. (rw c.aimed.ensures at (c.transfer_word.ensures.told pc o)) ∙ aimed_trail (dir_of a.k) Word a.er.now pc a.f a.trail.now 16 2 2 a.x a.pc (λ y. refl) (a.k % 8) (ne_eqb _ _ c.if-k-eq1.false) }
