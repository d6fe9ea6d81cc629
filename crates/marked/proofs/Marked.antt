-- The twelve marked examples hold. Each step and run is computed from the definitions. Assumes nothing.
use mathlib.Core.Path.{refl}
use mathlib.Core.Bool.{xor}
use Rattle.arith.specs.Widths.{signed_of, fits_in, moved_of}
use Rattle.arith.specs.Sums.{add_of, sub_of}
use Rattle.arith.specs.Decimal.{find_row, adjust_of}
use Rattle.registers.specs.Parts.{part_of, insert_of, with_part}
use Rattle.memory.specs.Board.{good_board}
use Rattle.memory.specs.Access.{inside, read_part, read_of, written, write_part, write_of}
use Rattle.memory.specs.Told.{accesses_at}
use Rattle.operate.specs.Operate.{source_of, operated_of, alu_of, carried_of, row_of, added_of, adjusted_of, decimal_of}
use Rattle.site.specs.Costs.{cost_of}
use Rattle.timing.specs.Made.{made_at, base_of}
use Rattle.moves.specs.Made.{states_at}
use Rattle.moves.specs.Moves.{address_of, step_over, loaded_of, load_of, stored_of, store_of}
use Rattle.flow.specs.Targets.{target_of}
use Rattle.step.specs.Follow.{even_condition, holds_of, follow_of}
use Rattle.step.specs.Step.{transfer_of, effect_of, finish_of, carry_of, obey_of, act_of, fetch_of, step_of}
use Rattle.run.specs.Run.{run_from, run_of}
use Rattle.figure.proofs.Examples.{example10, example10_2, example11, example12}
use Rattle.marked.specs.Rows.{All, rows}

pub marked : All rows
unfolding xor signed_of fits_in moved_of add_of sub_of find_row adjust_of part_of insert_of with_part good_board inside read_part read_of written write_part write_of cost_of accesses_at made_at base_of states_at source_of operated_of alu_of carried_of row_of added_of adjusted_of decimal_of address_of step_over loaded_of load_of stored_of store_of target_of even_condition holds_of follow_of transfer_of effect_of finish_of carry_of obey_of act_of fetch_of step_of run_from run_of
marked = (
  refl,
  (
    refl,
    (
      refl,
      (refl, (refl, (refl, (refl, (refl, (refl, (refl, (refl, (example10, (example10_2, (example11, (example12, tt)))))))))))),
    ),
  ),
)
