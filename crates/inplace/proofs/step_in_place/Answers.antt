use Rattle.inplace.proofs.Held.{in_place}
use Rattle.inplace.proofs.step_in_place.Goals as goal

pub returns : goal.returns
returns c = in_place c.args.b c.args.rom.now c.args.ram.now c.args.r.now c.single-a.new.ram c.single-a.result c.single-a.ensures.answer c.single-a.ensures.list c.single-a.ensures.sum c.single-a.ensures.spares
