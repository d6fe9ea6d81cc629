use Rattle.carried.specs.Carried.{report_of}
use Rattle.carried.proofs.report_in.Goals as goal

pub returns : goal.returns
unfolding report_of
returns c = simp (c.report_at.ensures, c.number_at-5.ensures, c.refusal_at-r.ensures, c.number_at-4.ensures, c.number_at-3.ensures, c.number_at-2.ensures, c.field_at-f.ensures, c.number_at.ensures)
