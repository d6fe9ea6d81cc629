use mathlib.Core.Path.{sym}
use lib.Seq.{set_out}
use Rattle.run.proofs.kept.keep.Goals as goal

pub returns-else-i-lines : goal.returns-else-i-lines
returns-else-i-lines c = sym (set_out _ _ _ c.if-i-lines.false)
