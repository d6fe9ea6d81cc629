use Rattle.std.proofs.Common.{sym, arith}
use Rattle.text.proofs.Adding.{one_more}
use Rattle.text.proofs.buffer.Line.bytes.Goals as goal

pub loop-b-preserved : goal.loop-b-preserved
loop-b-preserved c = rw (c.byte.ensures, c.loop-b.invariant) (sym (one_more _ _ c.loop-b.b-index (omega arith)))
