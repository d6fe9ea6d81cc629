-- The choice of a number, and the last of its list for a number past it, as `src/choices.rt` finds it. Nothing to believe.
use Rattle.std.specs.Prelude.{ℕ}
use Rattle.std.specs.Result.{result_unwrap_or}
use Rattle.layout.specs.Names.{Width, Long, Change, Ldc, Op, And, Way, Down, By, Four, Turn, Rotr, Single, Exts, Dir, Store, Sign, Signed, Half, Sixteen, Take, Bild, Give, Bist}
use Rattle.codes.specs.Choices as Choice
use Rattle.layout.specs.MirrorRows as Row

unfoldable pub width_at : ℕ → Width
width_at n = result_unwrap_or (Row.width_at n) Long

unfoldable pub change_at : ℕ → Change
change_at n = result_unwrap_or (Choice.change_at n) Ldc

unfoldable pub op_at : ℕ → Op
op_at n = result_unwrap_or (Choice.op_at n) And

unfoldable pub way_at : ℕ → Way
way_at n = result_unwrap_or (Choice.way_at n) Down

unfoldable pub by_at : ℕ → By
by_at n = result_unwrap_or (Choice.by_at n) Four

unfoldable pub turn_at : ℕ → Turn
turn_at n = result_unwrap_or (Choice.turn_at n) Rotr

unfoldable pub single_at : ℕ → Single
single_at n = result_unwrap_or (Choice.single_at n) Exts

unfoldable pub dir_at : ℕ → Dir
dir_at n = result_unwrap_or (Choice.dir_at n) Store

unfoldable pub sign_at : ℕ → Sign
sign_at n = result_unwrap_or (Choice.sign_at n) Signed

-- by the width of a factor and a divisor
unfoldable pub half_at : ℕ → Half
half_at n = result_unwrap_or (Row.half_at n) Sixteen

unfoldable pub take_at : ℕ → Take
take_at n = result_unwrap_or (Choice.take_at n) Bild

unfoldable pub give_at : ℕ → Give
give_at n = result_unwrap_or (Choice.give_at n) Bist
