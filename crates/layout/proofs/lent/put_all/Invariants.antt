-- what is still to be stored, stored from the place i on, makes the whole
use Rattle.std.proofs.Common.{◌≡◌, drop}
use Rattle.std.proofs.lemmas.List.Edits.{sets}
use Rattle.layout.proofs.lent.put_all.Given as goal

abbrev pub invariant-loop-i : goal.invariant-loop-i
invariant-loop-i g l = sets l.l l.i (drop l.i l.xs) ≡ sets l.initial.l 0 l.xs
