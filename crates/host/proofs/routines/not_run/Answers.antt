use Rattle.host.specs.Routines.{unrun}
use Rattle.host.proofs.Told.{refused_told}
use Rattle.host.proofs.routines.not_run.Goals as goal

pub returns : goal.returns
unfolding unrun
returns c = refused_told _ _ c.told.ensures.number c.told.ensures.answer _ c.from.ensures
