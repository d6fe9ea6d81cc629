-- host/h8.h, "THE BOARD": four numbers, the base of working memory, and the base, the end and the bus width of the port area. One that is not there is 0.
use Rattle.std.specs.Prelude.{ℕ, List, get_or}
use Rattle.site.specs.declared.Site.{Site}
use Rattle.memory.specs.declared.Board.{Board}

-- the area alone, which is all that the figure needs
unfoldable pub site_of : List ℕ → Site
site_of l = record { area = record { base = get_or l 1 0; end = get_or l 2 0; bus = get_or l 3 0 } }

unfoldable pub board_of : List ℕ → Board
board_of l = record { base = get_or l 0 0; site = site_of l }
