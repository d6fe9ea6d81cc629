-- What the trail of a run tells: the touches of its last step. Nothing here is to be believed.
use Rattle.std.specs.Prelude.{ℕ, ◌≡◌, List, drop}
use Rattle.registers.specs.declared.Registers.{Registers}
use Rattle.memory.specs.declared.Board.{Board}
use Rattle.moves.specs.Made.{trail_of}
use Rattle.decoder.specs.MirrorDecode.{decode_of}
use Rattle.step.specs.Step.{step_of}
use Rattle.turns.specs.MirrorTurn.{touched_by}
use Rattle.run.specs.declared.Ending.TheVariants.{Spent}
use Rattle.run.specs.declared.RunAnswer.{RunAnswer}
use Rattle.run.specs.declared.Noted.{Noted}

abbrev pub traced : RunAnswer → ℕ → Noted RunAnswer
traced a t = record { answer = a; touched = t }

-- what the instruction at PC touches, noted behind nothing
abbrev pub trail_at : List ℕ → Registers → ℕ
trail_at rom r = trail_of r 0 (touched_by (decode_of r.pc (drop r.pc rom)))

-- a step led to r, after so many from r₀, and the trail is its own
pub record Last (b : Board) (rom : List ℕ) (r₀ : Registers) (steps : ℕ) (r : Registers) (trail : ℕ) : Type 0 where
  pub begun : Registers
  pub held : List ℕ
  pub led : (step_of b rom held begun).answer.regs ≡ r
  pub only : steps ≡ 1 → begun ≡ r₀
  pub tells : trail ≡ trail_at rom begun

-- where a run from r₀ spent its budget, its trail is that of the last step
abbrev pub Tells : Board → List ℕ → Registers → Noted RunAnswer → Type 0
Tells b rom r₀ q = q.answer.why ≡ Spent → (q.answer.steps ≡ 0 → ⊥) → Last b rom r₀ q.answer.steps q.answer.regs q.touched
