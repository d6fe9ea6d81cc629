-- What a turn says of the step: the laws that an arm of the executor is proved by. Assumes nothing.
use Rattle.std.specs.Prelude.{Result, Ok, Err}
use Prim.Native.Nat.{ℕ}
use mathlib.Core.Path.{◌≡◌, refl, sym, ◌∙◌, ap}
use mathlib.Core.List.{List, []}
use native.Mathlib.Nat.{zero-add}
use native.Mathlib.Omega.{arith}
use Rattle.refusal.specs.declared.Refusal.{Refusal}
use Rattle.registers.specs.declared.Condition.{Condition}
use Rattle.registers.specs.declared.Registers.{Registers}
use Rattle.registers.specs.Lent.{lent}
use Rattle.registers.specs.Parts.{with_pc, pc_of}
use Rattle.memory.specs.declared.Board.{Board}
use Rattle.operate.specs.declared.Deed.{Deed}
use Rattle.operate.specs.MirrorLent.{Does, effect_in}
use Rattle.operate.specs.Results.{did}
use Rattle.moves.specs.Made.{states_at}
use Rattle.moves.specs.Moves.{Stepped, stepped}
use Rattle.moves.proofs.States.{states_none}
use Rattle.flow.specs.Targets.{next_of}
use Rattle.codes.specs.Cycles.{touches_of}
use Rattle.codes.specs.States.{states_of, goes_of}
use Rattle.step.specs.Follow.{follow_of}
use Rattle.step.specs.Step.{After, after, answered, stays, finish_of, effect_of, carry_of, obey_of, act_of}
use Rattle.step.specs.declared.StepAnswer.{StepAnswer}
use Rattle.step.proofs.Laws.{Done-or-not, done, not_done, effect_view}
use Rattle.codes.specs.declared.Instruction.{Instruction}
use Rattle.turns.specs.declared.Turn.{Turn}
use Rattle.turns.specs.MirrorTurn.{turn, ended_of, told_as, told_in, TurnsOn}

-- a completed turn tells nothing of the registers before it
pub done_told : (r q : Registers) (er : List ℕ) (pc : ℕ) (f : Condition) (p n : ℕ) → lent er pc f ≡ q → told_in er pc (turn f p n (Ok tt)) ≡ finish_of (Ok tt) r q p n
unfolding told_in told_as finish_of
done_told r q er pc f p n e = ap (λ (x : Registers). answered (with_pc x p) n (Ok tt)) e

-- a refused turn, where nothing was written
pub refused_stays : (er : List ℕ) (pc : ℕ) (f : Condition) (x : Refusal) → told_in er pc (turn f 0 0 (Err x)) ≡ stays (lent er pc f) x
unfolding told_in told_as
refused_stays er pc f x = rw (zero-add pc)

-- a deed that did what the instruction i does, with PC set to p: done, with m its states, or refused with nothing written
module _ (r : Registers) (ram er' ram' : List ℕ) (pc : ℕ) (e : Deed) (p n m : ℕ) (t : e.outcome ≡ Ok tt → n ≡ m) where
  deed_told : (s : Stepped) → Done-or-not r ram s → stepped (effect_in er' pc e) ram' ≡ s
      → after (told_in er' pc (ended_of e.outcome e.condition p n)) ram' ≡ after (finish_of s.effect.outcome r s.effect.regs p m) s.mem
  unfolding ended_of finish_of
  deed_told s (done q l k h) w =
      let o : e.outcome ≡ (Ok tt) = ap (λ (x : Stepped). x.effect.outcome) w in
      let g : lent er' pc e.condition ≡ q = ap (λ (x : Stepped). x.effect.regs) w in
      rw (o, ap (λ (x : Stepped). x.mem) w, sym (t o)) (ap (λ (a : StepAnswer). after a l) (done_told r q er' pc e.condition p n g))
  deed_told s (not_done x h) w =
      let o : e.outcome ≡ Err x = ap (λ (s : Stepped). s.effect.outcome) w in
      let g : lent er' pc e.condition ≡ r = ap (λ (s : Stepped). s.effect.regs) w in
      rw (o, ap (λ (s : Stepped). s.mem) w) (ap (λ (a : StepAnswer). after a ram) (refused_stays er' pc e.condition x ∙ ap (λ (q : Registers). stays q x) g))

  pub ended_told : (next : ℕ) (b : Board) (rom : List ℕ) (i : Instruction) → stepped (effect_in er' pc e) ram' ≡ effect_of next r b rom ram i
      → after (told_in er' pc (ended_of e.outcome e.condition p n)) ram'
      ≡ (let s = effect_of next r b rom ram i in after (finish_of s.effect.outcome r s.effect.regs p m) s.mem)
  ended_told next b rom i w = deed_told _ (effect_view r b rom ram next i) w

-- The ways in which an arm of the executor ends, for an instruction i of n bytes. p is where PC goes; where i goes onward, that is the next address.
module _ (i : Instruction) (n p : ℕ) (er : List ℕ) (pc : ℕ) (f : Condition) (b : Board) (rom ram : List ℕ) where
  abbrev pub Goes-to : Result ℕ Refusal → Type 0
  Goes-to g = follow_of (lent er pc f) b rom ram (goes_of i) (next_of pc n) ≡ g

  abbrev pub Acts : List ℕ → List ℕ → Turn → Type 0
  Acts er' ram' t = TurnsOn (Ok (i, n)) er er' pc f b rom ram ram' t

  -- its states, where it is completed
  abbrev pub Takes : ℕ → Type 0
  Takes s = s ≡ states_at b.site (lent er pc f) i

  -- it did g, which writes no memory and is not refused
  pub done_taking : (s : ℕ) → Takes s → (g : Registers → Registers) (er' : List ℕ) (f' : Condition) → Goes-to (Ok p)
      → effect_of (next_of pc n) (lent er pc f) b rom ram i ≡ stepped (did (g (lent er pc f))) ram → Does g er er' f f'
      → Acts er' ram (turn f' p s (Ok tt))
  unfolding act_of obey_of carry_of
  done_taking s t g er' f' w x d =
      rw (w, x, sym t) (ap (λ (a : StepAnswer). after a ram) (done_told (lent er pc f) (g (lent er pc f)) er' pc f' p s (d pc)))

  -- a deed that did all that i does, or was refused
  pub ended_taking : (s : ℕ) (er' ram' : List ℕ) (e : Deed) → (e.outcome ≡ Ok tt → Takes s) → Goes-to (Ok p)
      → stepped (effect_in er' pc e) ram' ≡ effect_of (next_of pc n) (lent er pc f) b rom ram i → Acts er' ram' (ended_of e.outcome e.condition p s)
  unfolding act_of obey_of carry_of
  ended_taking s er' ram' e t w x = rw w (ended_told (lent er pc f) ram er' ram' pc e p s _ t (next_of pc n) b rom i x)

  -- the same where i touches no memory
  pub done_acts : touches_of i ≡ [] → (g : Registers → Registers) (er' : List ℕ) (f' : Condition) → Goes-to (Ok p)
      → effect_of (next_of pc n) (lent er pc f) b rom ram i ≡ stepped (did (g (lent er pc f))) ram → Does g er er' f f'
      → Acts er' ram (turn f' p (states_of i) (Ok tt))
  done_acts h = done_taking (states_of i) (sym (states_none b.site (lent er pc f) i h))

  pub ended_acts : touches_of i ≡ [] → (er' ram' : List ℕ) (e : Deed) → Goes-to (Ok p)
      → stepped (effect_in er' pc e) ram' ≡ effect_of (next_of pc n) (lent er pc f) b rom ram i → Acts er' ram' (ended_of e.outcome e.condition p (states_of i))
  ended_acts h er' ram' e = ended_taking (states_of i) er' ram' e (λ _. sym (states_none b.site (lent er pc f) i h))

  -- the address where it goes could not be read
  pub unread_acts : (x : Refusal) → Goes-to (Err x) → Acts er ram (turn f 0 0 (Err x))
  unfolding act_of obey_of carry_of
  unread_acts x w = rw w (ap (λ (a : StepAnswer). after a ram) (refused_stays er pc f x))

-- what a loop over turns asks
pub told_done : (er : List ℕ) (pc : ℕ) (t : Turn) → t.outcome ≡ Ok tt → told_in er pc t ≡ answered (lent er (pc_of t.pc) t.condition) t.states (Ok tt)
unfolding told_in told_as
told_done er pc t d = rw d

-- a refused turn whose step left the registers r
pub told_refused : (er ram ram₀ : List ℕ) (pc : ℕ) (r : Registers) (t : Turn) (x : Refusal) → t.outcome ≡ Err x
    → after (told_in er pc t) ram ≡ after (stays r x) ram₀ → er ≡ r.er
unfolding told_in told_as
told_refused er ram ram₀ pc r t x d e = ap (λ (a : After). a.answer.regs.er) (rw d at e)

-- a turn is done where its deed was, and a refused one is not
ended_as : (o : Result (Unit {0}) Refusal) (f : Condition) (p n : ℕ) → (ended_of o f p n).outcome ≡ o
unfolding ended_of
ended_as (Ok tt) f p n = refl
ended_as (Err x) f p n = refl

pub deed_done : (q : Turn) (e : Deed) (p n : ℕ) → q ≡ ended_of e.outcome e.condition p n → q.outcome ≡ Ok tt → e.outcome ≡ Ok tt
deed_done q e p n h d = sym (ended_as e.outcome e.condition p n) ∙ sym (ap (λ (u : Turn). u.outcome) h) ∙ d

pub no_turn : (q : Turn) (f : Condition) (x : Refusal) → q ≡ turn f 0 0 (Err x) → q.outcome ≡ Ok tt → ⊥
no_turn q f x h d =
    let g : Err x ≡ (Ok tt) = sym (ap (λ (u : Turn). u.outcome) h) ∙ d in
    let z : ◌≡◌ {A = ℕ} 0 1 = cc in
    absurd (omega arith)
