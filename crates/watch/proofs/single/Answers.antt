use Rattle.watch.proofs.Laws.{told_list, told_sum}
use Rattle.watch.proofs.Honest.{told_spares}
use Rattle.watch.proofs.single.Goals as goal

pub returns : goal.returns
returns c = let a = c.args in
    let w = c.watched-t in
    let s = w.ensures.did in
    let u = c.unpacked-list in
    let l = told_list a.b a.rom.now a.ram.now a.r w.result.answer _ s w.result.touched u.result.items w.ensures.told u.ensures.list in record { answer = s; list = l; few = u.ensures.few; sum = told_sum a.b a.rom.now a.ram.now a.r (record { answer = w.result.answer; list = u.result }) _ s l; spares = told_spares a.b a.rom.now a.ram.now a.r w.result.answer _ s _ l }
