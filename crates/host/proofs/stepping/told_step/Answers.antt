use Rattle.host.proofs.Listed.{step_told_lem}
use Rattle.host.proofs.stepping.told_step.Goals as goal

pub returns : goal.returns
returns c = let s = c in step_told_lem s.args.n s.args.p s.args.g s.args.states s.args.list.now.items s.args.answer.now _ _ s.requires c.put_all.ensures c.put_list.ensures
