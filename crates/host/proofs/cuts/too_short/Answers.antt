use Rattle.host.proofs.cuts.too_short.Goals as goal

pub returns : goal.returns
returns c = c.tell_report.ensures
