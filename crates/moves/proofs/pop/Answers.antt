use mathlib.Core.Path.{sym, ◌∙◌}
use Rattle.registers.specs.Parts.{part_of}
use Rattle.memory.specs.Trail.{call_noted}
use Rattle.moves.proofs.Laws.{raised_loaded, no_deed}
use Rattle.moves.specs.Moves.{address_of, loaded_of, load_of}
use Rattle.moves.proofs.pop.Goals as goal

pub returns-in-Ok : goal.returns-in-Ok
unfolding call_noted part_of address_of loaded_of load_of
returns-in-Ok c = record { did = λ pc. let a = c.args in rw c.did.ensures (raised_loaded a.w a.e a.d c.in-Ok.x pc a.er.now _ _ a.f _ _ a.b a.rom.now a.ram.now (rw (sym c.get.ensures) (sym c.read.ensures.value ∙ c.in-Ok.is)) (rw c.bytes.ensures at (c.raise-g.ensures pc)) (c.mov.ensures pc)); told = λ pc o. rw (c.get.ensures, c.in-Ok.is) at c.read.ensures.told }

pub returns-in-Err : goal.returns-in-Err
unfolding call_noted part_of address_of loaded_of load_of
returns-in-Err c = record { did = λ pc. simp (sym c.get.ensures, sym c.read.ensures.value ∙ c.in-Err.is, c.refused.ensures); told = λ pc o. absurd (no_deed _ _ _ c.refused.ensures o) }
