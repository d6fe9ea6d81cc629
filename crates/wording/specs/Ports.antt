-- What is wrong with the ports that were asked for, in words (document 02, W5). The width of their bus is looked at with the other arguments.
use Rattle.std.specs.Prelude.{ℕ, ◌%◌, cond, List, ltb, eqb}
use Rattle.site.specs.declared.Area.{Area}
use Rattle.text.specs.Lines.{ascii}

-- which number of --port is wrong; if none is by itself, where they lie
unfoldable pub area_fault : Area → List ℕ → List ℕ
area_fault a otherwise =
    cond (eqb (a.base % 2) 1) (ascii "1: BASE of --port is odd")
    (cond (eqb (a.end % 2) 1) (ascii "1: END of --port is odd")
    (cond (ltb a.end a.base) (ascii "1: BASE of --port is above END") otherwise))
