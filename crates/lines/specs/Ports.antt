-- What is wrong with the ports that a figure was asked for with, in words (document 02, W5).
use Rattle.std.specs.Prelude.{ℕ, Bool, cond, List, ◌++◌, nat_lt}
use Rattle.refusal.specs.declared.Refusal.TheVariants.{BadBoard}
use Rattle.site.specs.declared.Area.{Area}
use Rattle.text.specs.Lines.{ascii}
use Rattle.wording.specs.Parts.{before_text}
use Rattle.wording.specs.Ports.{area_fault}

-- no right board with a ROM of that length has these ports
unfoldable pub carried_fault : ℕ → Area → List ℕ
carried_fault rom a =
    cond (nat_lt a.base rom) (area_fault a (ascii "1: BASE of --port is below the end of the ROM"))
    (cond (nat_lt 16777216 a.end) (area_fault a (ascii "1: the ports do not end at or below 0x1000000"))
    (area_fault a (ascii "1: there are more than 65536 bytes of ports")))

abbrev pub ports_text : ℕ → Area → Bool → List ℕ
ports_text rom a plain = before_text BadBoard plain ++ (carried_fault rom a ++ ascii "\n")
