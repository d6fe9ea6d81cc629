use Rattle.carried.specs.Carried.{standing_of}
use Rattle.carried.proofs.replay_in.Goals as goal

pub returns : goal.returns
unfolding standing_of
returns c = rw (c.stage_at-g.ensures, c.report_in.ensures, c.part_in.ensures, c.number_at.ensures, c.registers_in-r.ensures, c.number_at-2.ensures, c.number_at-low.ensures, c.number_at-high.ensures)
