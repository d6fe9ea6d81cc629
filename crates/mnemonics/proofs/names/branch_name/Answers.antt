use Rattle.mnemonics.specs.Names.{branch_name}
use Rattle.mnemonics.proofs.names.branch_name.Goals as goal

pub returns : goal.returns
unfolding branch_name
returns c = c.bytes.ensures
