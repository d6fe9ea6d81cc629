use Rattle.text.proofs.buffer.Line.+figures.Given as goal

abbrev pub decreases-figures : goal.decreases-figures
decreases-figures l = l.k
