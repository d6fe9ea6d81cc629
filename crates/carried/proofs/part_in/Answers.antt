use Rattle.carried.specs.Carried.{part_of}
use Rattle.carried.proofs.part_in.Goals as goal

pub returns : goal.returns
unfolding part_of
returns c = simp (c.number_at.ensures, c.number_at-2.ensures, c.number_at-3.ensures, c.number_at-4.ensures, c.number_at-5.ensures)
