-- The words and options that the tool is asked with.
use Rattle.std.specs.Prelude.{ℕ, Bool, cond, ◌&&◌, ◌||◌, List, eqb, get_or, Option, Some, None}
use Rattle.std.specs.Str.{bytes_eq}
use Prim.Native.Char.{code}
use Rattle.text.specs.Lines.{ascii}
use Rattle.asking.specs.declared.words.Kind.{Kind}
use Rattle.asking.specs.declared.words.Kind.TheVariants.{AWord, PlainOption, RamOption, PortOption, BudgetOption, StopOption, ErOption, RoutineOption, DeepOption, TraceOption}
use Rattle.asking.specs.declared.words.Use.{Use}
use Rattle.asking.specs.declared.words.Use.TheVariants.{ForFigure, ForWay, ForList, ForRun, ForReplay, ForHelp}

-- it begins with two dashes
abbrev pub dashed : List ℕ → Bool
dashed s = eqb (get_or s 0 0) (code "-") && eqb (get_or s 1 0) (code "-")

unfoldable pub kind_of : List ℕ → Option Kind
kind_of s =
    cond (bytes_eq s (ascii "--plain")) (Some PlainOption)
    (cond (bytes_eq s (ascii "--ram")) (Some RamOption)
    (cond (bytes_eq s (ascii "--port")) (Some PortOption)
    (cond (bytes_eq s (ascii "--budget")) (Some BudgetOption)
    (cond (bytes_eq s (ascii "--stop")) (Some StopOption)
    (cond (bytes_eq s (ascii "--er")) (Some ErOption)
    (cond (bytes_eq s (ascii "--routine")) (Some RoutineOption)
    (cond (bytes_eq s (ascii "--deep")) (Some DeepOption)
    (cond (bytes_eq s (ascii "--trace")) (Some TraceOption) (cond (dashed s) None (Some AWord))))))))))

unfoldable pub use_of : List ℕ → Option Use
use_of s =
    cond (bytes_eq s (ascii "help")) (Some ForHelp)
    (cond (bytes_eq s (ascii "figure")) (Some ForFigure)
    (cond (bytes_eq s (ascii "way")) (Some ForWay)
    (cond (bytes_eq s (ascii "list")) (Some ForList)
    (cond (bytes_eq s (ascii "run")) (Some ForRun) (cond (bytes_eq s (ascii "replay")) (Some ForReplay) None)))))

-- as other programs are asked for help
abbrev pub help_asked : List ℕ → Bool
help_asked s = bytes_eq s (ascii "--help") || bytes_eq s (ascii "-h")
