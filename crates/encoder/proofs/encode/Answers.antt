use Rattle.encoder.proofs.Stored.{refuses, answers}
use Rattle.encoder.proofs.encode.Goals as goal

pub returns-then-valid : goal.returns-then-valid
returns-then-valid c = let b = c in
    let a = b.args in
    answers a.i b.valid.result b.valid.ensures a.out.now c.put.new.out
    b.parts_of.result c.put.result b.if-valid.true b.parts_of.ensures c.put.ensures

pub returns-else-valid : goal.returns-else-valid
returns-else-valid c = let a = c.args in
    refuses a.i c.valid.result c.valid.ensures a.out.now c.if-valid.false
