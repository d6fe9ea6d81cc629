use mathlib.Core.Path.{◌≡◌}
use mathlib.Core.Bool.{true, false, ◌&&◌}
use borrow.Author.Tests.{lt-ltb, le-ltb}
use lib.ListN.{length}
use Rattle.memory.specs.Board.{good_board}
use Rattle.step.specs.Step.{good_pc}
use Rattle.routine.specs.Routine.{routine_of}
use borrow.Author.Rules.{rules}
use Rattle.routine.proofs.routine.Goals as goal

pub returns-then-budget-gt1000000 : goal.returns-then-budget-gt1000000
unfolding routine_of
returns-then-budget-gt1000000 c = rw (lt-ltb _ _ c.if-budget-gt1000000.true) (cc)

pub repeat-requires : goal.repeat-requires
unfolding routine_of
repeat-requires c = (search rules, (cc))

pub returns-then-good_board-good_pc : goal.returns-then-good_board-good_pc
unfolding routine_of
returns-then-good_board-good_pc c = let s = c.args in
    let g : good_board s.b (length s.rom.now) (length s.ram.now) && good_pc s.r.pc ≡ true = cc in
    rw (le-ltb _ _ c.if-budget-gt1000000.false, g) c.repeat.ensures

pub returns : goal.returns
unfolding routine_of
returns c = let s = c.args in
    let g : good_board s.b (length s.rom.now) (length s.ram.now) && good_pc s.r.pc ≡ false = cc in
    rw (le-ltb _ _ c.if-budget-gt1000000.false, g) (cc)
