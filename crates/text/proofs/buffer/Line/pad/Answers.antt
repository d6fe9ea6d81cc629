use Rattle.std.proofs.Common.{sym}
use Rattle.text.proofs.Adding.{space_more}
use Rattle.text.proofs.buffer.Line.pad.Goals as goal

pub loop-preserved : goal.loop-preserved
loop-preserved c = rw (c.byte.ensures, c.loop.invariant) (sym (space_more c.args.self.now c.loop.counter))
