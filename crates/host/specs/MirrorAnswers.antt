-- The same as the code finds it. Nothing to believe: `proofs/Told.antt` and `proofs/Entered.antt` show that it is what `Answers` and the files of the calls say.
use Rattle.std.specs.Prelude.{ℕ, ◌+◌, cond, List, ◌∷◌, ◌++◌, ltb, length, drop, get_or, Result, Ok, Err, Option, Some, None}
use Rattle.refusal.specs.declared.Refusal.{Refusal}
use Rattle.refusal.specs.declared.Refusal.TheVariants.{BadBoard, BudgetTooLarge, LentTooShort}
use Rattle.refusal.specs.Refusals.{number_of, place_of, group_of}
use Rattle.registers.specs.declared.Registers.{Registers}
use Rattle.layout.specs.Registers.{registers_length, registers_of}
use Rattle.host.specs.declared.answers.Head.{Head}

-- the head of a refusal, and of none
abbrev pub head_of : Refusal → Head
head_of f = record { number = number_of f; place = place_of f; group = group_of f }

abbrev pub done : Head
done = record { number = 0; place = 0; group = 0 }

-- a head and numbers behind it, and a lent array that begins with them
abbrev pub headed : {A : Type 0} → (ℕ → A) → Head → List A → List A
headed of h more = of h.number ∷ of h.place ∷ of h.group ∷ more

abbrev pub behind : {A : Type 0} → (ℕ → A) → Head → List A → List A → List A
behind of h more old = headed of h more ++ drop (3 + length more) old

-- lent registers, or what is refused of them
unfoldable pub lent_registers : List ℕ → ℕ → Result Registers Refusal
lent_registers regs budget =
    cond (ltb (length regs) registers_length) (Err (LentTooShort registers_length))
    (cond (ltb 1000000 budget) (Err BudgetTooLarge)
    (cond (ltb 255 (get_or regs 9 0)) (Err BadBoard)
    (Ok (registers_of regs))))

-- the number of the place where a way goes on
unfoldable pub place_on : Option ℕ → ℕ
place_on (Some p) = p
place_on None = 16777215
