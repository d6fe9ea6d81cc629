use Rattle.memory.specs.Access.{inside}
use borrow.Author.Rules.{rules}
use Rattle.memory.proofs.holds.Goals as goal

pub returns : goal.returns
unfolding inside
returns c = search rules
