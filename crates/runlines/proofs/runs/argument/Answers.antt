use borrow.Author.Tests.{eq-eqb}
use Rattle.runlines.specs.Runs.{argument_text}
use Rattle.runlines.proofs.runs.argument.Goals as goal

pub returns-then-number-eq12 : goal.returns-then-number-eq12
unfolding argument_text
returns-then-number-eq12 c = rw (← c.number.ensures, eq-eqb _ _ c.if-number-eq12.true) c.text.ensures
