-- What `h8 run --routine` says: what `h8 run` says, and the endings of a routine's own run.
use Rattle.std.specs.Prelude.{ℕ, ◌+◌, ◌%◌, Bool, true, cond, List, [], ◌++◌, get_or}
use Rattle.refusal.specs.declared.Refusal.{Refusal}
use Rattle.run.specs.declared.Ending.TheVariants.{AtStop as RunAtStop, Spent as RunSpent, Halted as RunHalted}
use Rattle.routine.specs.declared.Ending.{Ending}
use Rattle.routine.specs.declared.Ending.TheVariants.{AtStop, Spent, Halted, Returned, Ninth, Elsewhere}
use Rattle.routine.specs.declared.RoutineAnswer.{RoutineAnswer}
use Rattle.text.specs.Lines.{ascii}
use Rattle.text.specs.Numbers.{place_of}
use Rattle.runlines.specs.declared.runs.Given.{Given}
use Rattle.wording.specs.Parts.{place_line}
use Rattle.runlines.specs.Runs.{why_words, why_plain, counts_words, counts_plain, begun, wrong_text, registers_text}

-- the address kept last, where a return has to go; `count` of eight are kept
abbrev pub kept_last : RoutineAnswer → ℕ
kept_last a = get_or a.kept.addresses ((a.kept.count + 7) % 8) 0

abbrev pub ninth_words : ℕ → List ℕ
ninth_words pc = ascii "ended: before the call at " ++ (place_of pc ++ ascii ", which would keep a ninth address\n")

abbrev pub elsewhere_words : ℕ → ℕ → List ℕ
elsewhere_words pc to =
    ascii "ended: before the return at " ++ (place_of pc ++ (ascii ", which would go elsewhere than to " ++ (place_of to ++ ascii "\n")))

abbrev pub elsewhere_plain : ℕ → List ℕ
elsewhere_plain to = ascii "ended elsewhere\n" ++ place_line (ascii "kept") to

-- with PC there, and `to` kept last
abbrev pub ended_words : List ℕ → Given → Ending → ℕ → ℕ → List ℕ
ended_words rom g AtStop pc to = why_words rom g RunAtStop
ended_words rom g Spent pc to = why_words rom g RunSpent
ended_words rom g (Halted f) pc to = why_words rom g (RunHalted f)
ended_words rom g Returned pc to = ascii "ended: the routine has returned\n"
ended_words rom g Ninth pc to = ninth_words pc
ended_words rom g Elsewhere pc to = elsewhere_words pc to

abbrev pub ended_plain : List ℕ → Ending → ℕ → List ℕ
ended_plain rom AtStop to = why_plain rom RunAtStop
ended_plain rom Spent to = why_plain rom RunSpent
ended_plain rom (Halted f) to = why_plain rom (RunHalted f)
ended_plain rom Returned to = ascii "ended return\n"
ended_plain rom Ninth to = ascii "ended ninth\n"
ended_plain rom Elsewhere to = elsewhere_plain to

abbrev pub out_words : List ℕ → Given → RoutineAnswer → List ℕ
out_words rom g a = counts_words g.entry a.steps a.states ++ ended_words rom g a.why a.regs.pc (kept_last a)

abbrev pub out_plain : List ℕ → RoutineAnswer → List ℕ
out_plain rom a = counts_plain a.steps a.states ++ ended_plain rom a.why (kept_last a)

unfoldable pub out_text : List ℕ → Given → RoutineAnswer → Bool → List ℕ
out_text rom g a plain = cond plain (out_plain rom a) (out_words rom g a)

abbrev pub was_begun : Ending → Bool
was_begun AtStop = true
was_begun Spent = true
was_begun (Halted f) = begun (RunHalted f)
was_begun Returned = true
was_begun Ninth = true
was_begun Elsewhere = true

unfoldable pub stopped_text : List ℕ → Given → RoutineAnswer → Refusal → Bool → List ℕ
stopped_text rom g a f plain = cond (begun (RunHalted f)) (out_text rom g a plain) (wrong_text g f plain)

abbrev pub by_ending : List ℕ → Given → RoutineAnswer → Ending → Bool → List ℕ
by_ending rom g a AtStop plain = out_text rom g a plain
by_ending rom g a Spent plain = out_text rom g a plain
by_ending rom g a (Halted f) plain = stopped_text rom g a f plain
by_ending rom g a Returned plain = out_text rom g a plain
by_ending rom g a Ninth plain = out_text rom g a plain
by_ending rom g a Elsewhere plain = out_text rom g a plain

abbrev pub routine_text : List ℕ → Given → RoutineAnswer → Bool → List ℕ
routine_text rom g a plain = by_ending rom g a a.why plain

-- nothing where nothing ran
unfoldable pub routine_held : RoutineAnswer → Bool → List ℕ
routine_held a plain = cond (was_begun a.why) (registers_text a.regs plain) []
