use mathlib.Core.Path.{sym}
use lib.ListN.{get_or-eq_default}
use Rattle.run.proofs.kept.line.Goals as goal

pub returns-else-i-lines : goal.returns-else-i-lines
returns-else-i-lines c = sym (get_or-eq_default c.args.lines.now 0 c.if-i-lines.false)
