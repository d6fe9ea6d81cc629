use Rattle.host.proofs.Told.{in_parts}
use Rattle.host.proofs.answers.told.Goals as goal

pub returns-clause-answer : goal.returns-clause-answer
returns-clause-answer g c =
    in_parts c.args.more.now c.args.answer.now c.copy_from_slice.ensures.after c.of.ensures c.of-2.ensures c.of-3.ensures c.copy_from_slice-2.ensures.after
