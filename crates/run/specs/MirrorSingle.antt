-- How the single step of a run of one went. Nothing here is to be believed.
use Rattle.std.specs.Prelude.{Result, Ok, Err}
use Rattle.refusal.specs.declared.Refusal.{Refusal}
use Rattle.run.specs.declared.Ending.{Ending}
use Rattle.run.specs.declared.Ending.TheVariants.{AtStop, Spent, Halted}

abbrev pub outcome_of : Ending → Result (Unit {0}) Refusal
outcome_of AtStop = Ok tt
outcome_of Spent = Ok tt
outcome_of (Halted f) = Err f
