-- The measure of the two together: remaining depth falls, and then remaining places.
use Rattle.std.proofs.Common.{◌+◌, ◌*◌}
use Rattle.levels.proofs.Code.+call_cost_path_cost.Given as goal

abbrev pub decreases-call_cost : goal.decreases-call_cost
decreases-call_cost l = l.depth * 524288

abbrev pub decreases-path_cost : goal.decreases-path_cost
decreases-path_cost l = l.depth * 524288 + (l.more + 1)
