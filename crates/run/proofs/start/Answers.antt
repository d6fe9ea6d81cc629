use mathlib.Core.Path.{◌≡◌, ap}
use mathlib.Core.Bool.{true, false}
use borrow.Author.Tests.{lt-ltb, le-ltb}
use Rattle.step.specs.Step.{good_start}
use Rattle.run.specs.MirrorAlong.{start_of}
use Rattle.run.specs.declared.Noted.{Noted}
use Rattle.run.specs.declared.RunAnswer.{RunAnswer}
use borrow.Author.Rules.{rules}
use Rattle.run.proofs.start.Goals as goal

pub returns-then-budget-gt1000000 : goal.returns-then-budget-gt1000000
unfolding start_of
returns-then-budget-gt1000000 c = record { did = rw (lt-ltb _ _ c.if-budget-gt1000000.true, c.answer.ensures); told = λ h n. absurd (n (ap (λ (q : Noted RunAnswer). q.answer.steps) c.answer.ensures)) }

pub repeat-requires : goal.repeat-requires
unfolding start_of
repeat-requires c = (search rules, (cc), c.requires.0, c.requires.1)

pub returns-then-good_board-good_pc : goal.returns-then-good_board-good_pc
unfolding start_of
returns-then-good_board-good_pc c = let s = c.args in
    let g : good_start s.b s.rom.now s.ram.now s.r ≡ true = cc in
    record { did = rw (le-ltb _ _ c.if-budget-gt1000000.false, g) c.repeat.ensures.did; told = c.repeat.ensures.told }

pub returns : goal.returns
unfolding start_of
returns c = let s = c.args in
    let g : good_start s.b s.rom.now s.ram.now s.r ≡ false = cc in
    record { did = rw (le-ltb _ _ c.if-budget-gt1000000.false, g, c.answer-2.ensures); told = λ h n. absurd (n (ap (λ (q : Noted RunAnswer). q.answer.steps) c.answer-2.ensures)) }
