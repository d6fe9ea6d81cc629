-- The row that a lent array begins with, as `src/lent.rt` reads it. Nothing to believe.
use Rattle.std.specs.Prelude.{ℕ, List, get_or}
use Rattle.layout.specs.declared.rows.Row.{Row}

unfoldable pub row_in : List ℕ → Row
row_in l =
    record {
      kind = get_or l 0 0;
      which = get_or l 1 0;
      width = get_or l 2 0;
      operand = record { form = get_or l 3 0; other = get_or l 4 0; value = get_or l 5 0 };
      reg = get_or l 6 0;
    }
