-- What `h8 run` says: steps, states, why it ended, registers and flags.
use Rattle.std.specs.Prelude.{ℕ, ◌+◌, ◌%◌, Bool, true, false, cond, not, ◌||◌, List, [], ◌∷◌, ◌++◌, leb, ltb, eqb, get_or}
use Prim.Native.Char.{code}
use Rattle.refusal.specs.Refusals.{number_of}
use Rattle.refusal.specs.declared.Refusal.{Refusal}
use Rattle.registers.specs.declared.Condition.{Condition}
use Rattle.registers.specs.declared.Registers.{Registers}
use Rattle.run.specs.declared.Ending.{Ending}
use Rattle.run.specs.declared.Ending.TheVariants.{AtStop, Spent, Halted}
use Rattle.run.specs.declared.RunAnswer.{RunAnswer}
use Rattle.text.specs.Lines.{ascii}
use Rattle.text.specs.Numbers.{hex_of, place_of, decimal_of}
use Rattle.wording.specs.Refusals.{refusal_text}
use Rattle.runlines.specs.declared.runs.Given.{Given}
use Rattle.wording.specs.Ports.{area_fault}
use Rattle.wording.specs.Parts.{number_line, before_text, refused_text}

-- which number of --ram or --port makes the board wrong
unfoldable pub ram_fault : Given → List ℕ
ram_fault g =
    cond (eqb (g.base % 2) 1) (ascii "1: BASE of --ram is odd")
    (cond (eqb (g.length % 2) 1) (ascii "1: LENGTH of --ram is odd")
    (cond (ltb 16777216 (g.base + g.length)) (ascii "1: the working memory does not end at or below 0x1000000")
    (cond (ltb g.base g.code) (ascii "1: BASE of --ram is below the end of the ROM")
    (area_fault g.area (ascii "1: the ports are not inside the working memory")))))

-- which argument does
unfoldable pub board_fault : Given → List ℕ
board_fault g = cond (eqb (g.entry % 2) 1 || leb 16777216 g.entry) (ascii "1: ENTRY is odd or not below 0x1000000") (ram_fault g)

unfoldable pub argument_text : Given → Refusal → List ℕ
argument_text g f = cond (eqb (number_of f) 12) (ascii "12: --budget is over 1000000 steps") (board_fault g)

-- refusals 1 and 12 come before the first step: they lie in the arguments
abbrev pub wrong_text : Given → Refusal → Bool → List ℕ
wrong_text g f plain = before_text f plain ++ (argument_text g f ++ ascii "\n")

abbrev pub why_words : List ℕ → Given → Ending → List ℕ
why_words rom g AtStop = ascii "ended: at the stop address " ++ (place_of g.stop ++ ascii "\n")
why_words rom g Spent = ascii "ended: the budget is spent, steps: " ++ (decimal_of g.budget ++ ascii "\n")
why_words rom g (Halted f) = ascii "ended: refused: " ++ (refusal_text rom f ++ ascii "\n")

abbrev pub why_plain : List ℕ → Ending → List ℕ
why_plain rom AtStop = ascii "ended stop\n"
why_plain rom Spent = ascii "ended budget\n"
why_plain rom (Halted f) = ascii "ended refusal\n" ++ refused_text rom f true

-- how many steps and states a run from the entry took
abbrev pub counts_words : ℕ → ℕ → ℕ → List ℕ
counts_words entry steps states =
    ascii "run from " ++ (place_of entry ++ (ascii ": steps " ++ (decimal_of steps ++ (ascii ", states " ++ (decimal_of states ++ ascii "\n")))))

abbrev pub counts_plain : ℕ → ℕ → List ℕ
counts_plain steps states = number_line (ascii "steps") steps ++ number_line (ascii "states") states

abbrev pub told_words : List ℕ → Given → RunAnswer → List ℕ
told_words rom g a = counts_words g.entry a.steps a.states ++ why_words rom g a.why

abbrev pub told_plain : List ℕ → RunAnswer → List ℕ
told_plain rom a = counts_plain a.steps a.states ++ why_plain rom a.why

unfoldable pub told_text : List ℕ → Given → RunAnswer → Bool → List ℕ
told_text rom g a plain = cond plain (told_plain rom a) (told_words rom g a)

abbrev pub begun : Ending → Bool
begun AtStop = true
begun Spent = true
begun (Halted f) = not (eqb (number_of f) 1 || eqb (number_of f) 12)

unfoldable pub halted_text : List ℕ → Given → RunAnswer → Refusal → Bool → List ℕ
halted_text rom g a f plain = cond (begun (Halted f)) (told_text rom g a plain) (wrong_text g f plain)

abbrev pub ended_text : List ℕ → Given → RunAnswer → Ending → Bool → List ℕ
ended_text rom g a AtStop plain = told_text rom g a plain
ended_text rom g a Spent plain = told_text rom g a plain
ended_text rom g a (Halted f) plain = halted_text rom g a f plain

abbrev pub ran_text : List ℕ → Given → RunAnswer → Bool → List ℕ
ran_text rom g a plain = ended_text rom g a a.why plain

abbrev pub bit_of : Bool → ℕ
bit_of b = cond b (code "1") (code "0")

abbrev pub flag_text : List ℕ → Bool → List ℕ
flag_text name b = name ++ (bit_of b ∷ [])

abbrev pub flags_words : Condition → List ℕ
flags_words f =
    flag_text (ascii "  I ") f.i
    ++ (flag_text (ascii " UI ") f.ui ++ (flag_text (ascii " H ") f.h ++ (flag_text (ascii " U ") f.u
    ++ (flag_text (ascii " N ") f.n ++ (flag_text (ascii " Z ") f.z ++ (flag_text (ascii " V ") f.v ++ flag_text (ascii " C ") f.c))))))

abbrev pub flags_plain : Condition → List ℕ
flags_plain f =
    flag_text (ascii "\ni ") f.i
    ++ (flag_text (ascii "\nui ") f.ui ++ (flag_text (ascii "\nh ") f.h ++ (flag_text (ascii "\nu ") f.u
    ++ (flag_text (ascii "\nn ") f.n ++ (flag_text (ascii "\nz ") f.z ++ (flag_text (ascii "\nv ") f.v ++ flag_text (ascii "\nc ") f.c))))))

-- the register ERk after a name
abbrev pub er_text : List ℕ → List ℕ → ℕ → List ℕ
er_text name er k = name ++ (((code "0" + k) ∷ []) ++ (ascii " 0x" ++ hex_of false 8 (get_or er k 0)))

-- ERk to ERk+3
abbrev pub four_text : List ℕ → List ℕ → List ℕ → ℕ → List ℕ
four_text first name er k = er_text first er k ++ (er_text name er (k + 1) ++ (er_text name er (k + 2) ++ er_text name er (k + 3)))

abbrev pub registers_words : Registers → List ℕ
registers_words r =
    ascii "PC "
    ++ (place_of r.pc ++ (flags_words r.condition ++ (four_text (ascii "\nER") (ascii "  ER") r.er 0 ++ (four_text (ascii "\nER") (ascii "  ER") r.er 4 ++ ascii "\n"))))

abbrev pub registers_plain : Registers → List ℕ
registers_plain r =
    ascii "pc "
    ++ (place_of r.pc ++ (four_text (ascii "\ner") (ascii "\ner") r.er 0 ++ (four_text (ascii "\ner") (ascii "\ner") r.er 4 ++ (flags_plain r.condition ++ ascii "\n"))))

unfoldable pub registers_text : Registers → Bool → List ℕ
registers_text r plain = cond plain (registers_plain r) (registers_words r)

-- nothing where nothing ran
unfoldable pub held_text : RunAnswer → Bool → List ℕ
held_text a plain = cond (begun a.why) (registers_text a.regs plain) []
