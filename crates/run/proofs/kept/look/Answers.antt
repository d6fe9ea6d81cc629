use Rattle.run.proofs.Lines.{keeps}
use Rattle.run.proofs.kept.look.Goals as goal

pub returns-then-c-tag : goal.returns-then-c-tag
returns-then-c-tag c = let p = c.requires in
    let l = c.line-c.ensures in
    (rw l (p.3.holds _ p.2 (rw l at c.if-c-tag.true)), p.3)

pub returns : goal.returns
returns c = let s = c in
    let e = c.entry_at-e.ensures in
    (e.0, rw c.keep.ensures (keeps _ _ s.requires.3 s.args.at _ s.requires.2 e.0 e.1))
