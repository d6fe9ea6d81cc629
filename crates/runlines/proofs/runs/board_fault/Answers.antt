use Rattle.runlines.specs.Runs.{board_fault}
use Rattle.runlines.proofs.runs.board_fault.Goals as goal

pub returns-then-g : goal.returns-then-g
unfolding board_fault
returns-then-g c = rw c.if-g.true c.text.ensures

pub returns-else-g : goal.returns-else-g
unfolding board_fault
returns-else-g c = rw c.if-g.false c.ram_fault.ensures
