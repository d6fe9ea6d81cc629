-- What the bit instructions come to as entries. Assumes nothing.
use Rattle.std.specs.Prelude.{Ok}
use Prim.Native.Nat.{ℕ, ◌+◌, ◌%◌}
use mathlib.Core.Path.{◌≡◌, refl, sym, ap}
use mathlib.Core.Bool.{Bool, true, false}
use mathlib.Core.List.{List, [], ◌∷◌}
use lib.Dec.{ltb}
use Rattle.arith.specs.declared.Width.TheVariants.{Byte}
use Rattle.registers.specs.declared.Condition.{Condition}
use Rattle.registers.specs.declared.Registers.{Registers}
use Rattle.registers.specs.Lent.{lent}
use Rattle.registers.specs.Parts.{part_of, with_part}
use Rattle.memory.specs.declared.Board.{Board}
use Rattle.operate.specs.declared.Deed.{Deed}
use Rattle.operate.specs.MirrorLent.{Does, effect_in}
use Rattle.operate.specs.Results.{Effect}
use Rattle.timing.specs.Made.{made_at, sum_of, base_of}
use Rattle.moves.specs.Made.{trail_of}
use Rattle.moves.specs.Moves.{stepped, address_of, step_over}
use Rattle.moves.proofs.States.{states_once, states_twice}
use Rattle.bitwork.specs.Bitwork.{took_of, gave_of, takes_at, gives_at, takes_of, gives_of}
use Rattle.flow.specs.Targets.{next_of}
use Rattle.codes.specs.Cycles.{touch, byte}
use Rattle.codes.specs.declared.Dir.TheVariants.{Load, Store}
use Rattle.codes.specs.declared.Place.TheVariants.{At, Abs8, Abs24}
use Rattle.codes.specs.declared.Take.{Take}
use Rattle.codes.specs.declared.Give.{Give}
use Rattle.codes.specs.declared.Index.{Index}
use Rattle.codes.specs.declared.Spot.TheVariants.{InPart, AtEr, AtAbs}
use Rattle.codes.specs.declared.Instruction.{Instruction}
use Rattle.codes.specs.declared.Instruction.TheVariants.{Takes, Gives}
use Rattle.step.specs.Follow.{follow_of}
use Rattle.step.specs.Step.{effect_of}
use Rattle.turns.specs.MirrorTurn.{turn, ended_of, Turns, TurnsOn}
use Rattle.turns.proofs.Laws.{done_acts, ended_taking}
use Rattle.entry.specs.Entry.{spot_as}
use Rattle.bitturns.specs.MirrorBitturns.{address_in}

-- in a byte register
module _ (index : Index) (d n pc : ℕ) (er : List ℕ) (f g : Condition) where
  pub take_turns : (take : Take) → Does (λ (r : Registers). took_of take index (part_of Byte r d) r) er er f g
      → Turns (Ok (Takes take index (InPart d), n)) er er pc f (turn g (next_of pc n) 2 (Ok tt))
  unfolding effect_of follow_of takes_of
  take_turns take h b rom ram =
      done_acts (Takes take index (InPart d)) n (next_of pc n) er pc f b rom ram refl (λ (r : Registers). took_of take index (part_of Byte r d) r) er g refl refl h

  pub give_turns : (give : Give) (er' : List ℕ) → Does (λ (r : Registers). with_part Byte r d (gave_of give index (part_of Byte r d) r)) er er' f g
      → Turns (Ok (Gives give index (InPart d), n)) er er' pc f (turn g (next_of pc n) 2 (Ok tt))
  unfolding effect_of follow_of gives_of
  give_turns give er' h b rom ram =
      done_acts (Gives give index (InPart d)) n (next_of pc n) er pc f b rom ram refl (λ (r : Registers). with_part Byte r d (gave_of give index (part_of Byte r d) r)) er' g refl refl h

-- in memory, where the operand s says the byte; x is what an access to it costs
module _ (index : Index) (s n pc : ℕ) (er : List ℕ) (f : Condition) (b : Board) (rom ram : List ℕ) (e : Deed) (x : ℕ)
    (cost : x ≡ sum_of b.site (made_at Load Byte (address_in s er))) where
  abbrev pub Ends : Instruction → List ℕ → ℕ → Type 0
  Ends i m states = TurnsOn (Ok (i, n)) er er pc f b rom ram m (ended_of e.outcome e.condition (next_of pc n) states)

  took_ends : (take : Take) (t : Bool) → ltb s 256 ≡ t → effect_in er pc e ≡ takes_at take index (address_in s er) (lent er pc f) b rom ram
      → Ends (Takes take index (spot_as s)) ram (4 + x)
  unfolding effect_of follow_of takes_of address_of step_over part_of spot_as address_in base_of
  took_ends take true h q =
      let i = Takes take index (AtEr (s % 8)) in
      rw h
      (ended_taking i n (next_of pc n) er pc f b rom ram (4 + x) er ram e
      (λ o. rw (cost, h) (sym (states_once b.site (lent er pc f) i (touch Load Byte (At (s % 8))) refl))) refl
      (ap (λ (y : Effect). stepped y ram) (rw h at q)))
  took_ends take false h q =
      let i = Takes take index (AtAbs (s % 256)) in
      rw h
      (ended_taking i n (next_of pc n) er pc f b rom ram (4 + x) er ram e
      (λ o. rw (cost, h) (sym (states_once b.site (lent er pc f) i (touch Load Byte (Abs8 (s % 256))) refl))) refl
      (ap (λ (y : Effect). stepped y ram) (rw h at q)))

  pub take_ends : (take : Take) → effect_in er pc e ≡ takes_at take index (address_in s er) (lent er pc f) b rom ram → Ends (Takes take index (spot_as s)) ram (4 + x)
  take_ends take q = took_ends take (ltb s 256) refl q

  gave_ends : (give : Give) (ram' : List ℕ) (t : Bool) → ltb s 256 ≡ t → stepped (effect_in er pc e) ram' ≡ gives_at give index (address_in s er) (lent er pc f) b rom ram
      → Ends (Gives give index (spot_as s)) ram' (4 + x + x)
  unfolding effect_of follow_of gives_of address_of step_over part_of spot_as address_in base_of
  gave_ends give ram' true h q =
      let i = Gives give index (AtEr (s % 8)) in
      let p = At (s % 8) in
      rw h
      (ended_taking i n (next_of pc n) er pc f b rom ram (4 + x + x) er ram' e
      (λ o. rw (cost, h) (sym (states_twice b.site (lent er pc f) i (touch Load Byte p) (touch Store Byte p) refl))) refl (rw h at q))
  gave_ends give ram' false h q =
      let i = Gives give index (AtAbs (s % 256)) in
      let p = Abs8 (s % 256) in
      rw h
      (ended_taking i n (next_of pc n) er pc f b rom ram (4 + x + x) er ram' e
      (λ o. rw (cost, h) (sym (states_twice b.site (lent er pc f) i (touch Load Byte p) (touch Store Byte p) refl))) refl (rw h at q))

  pub give_ends : (give : Give) (ram' : List ℕ) → stepped (effect_in er pc e) ram' ≡ gives_at give index (address_in s er) (lent er pc f) b rom ram
      → Ends (Gives give index (spot_as s)) ram' (4 + x + x)
  give_ends give ram' q = gave_ends give ram' (ltb s 256) refl q

-- what they touch, by the operand
module _ (s t pc : ℕ) (er : List ℕ) (f : Condition) where
  taken_at : (b : Bool) → ltb s 256 ≡ b → trail_of (lent er pc f) t (touch Load Byte (Abs24 (address_in s er)) ∷ [])
      ≡ trail_of (lent er pc f) t (byte (spot_as s) (λ p. touch Load Byte p ∷ []))
  unfolding address_of step_over part_of spot_as address_in
  taken_at true h = rw h
  taken_at false h = rw h

  pub taken_trail : trail_of (lent er pc f) t (touch Load Byte (Abs24 (address_in s er)) ∷ []) ≡ trail_of (lent er pc f) t (byte (spot_as s) (λ p. touch Load Byte p ∷ []))
  taken_trail = taken_at (ltb s 256) refl

  given_at : (b : Bool) → ltb s 256 ≡ b → trail_of (lent er pc f) t (touch Load Byte (Abs24 (address_in s er)) ∷ touch Store Byte (Abs24 (address_in s er)) ∷ [])
      ≡ trail_of (lent er pc f) t (byte (spot_as s) (λ p. touch Load Byte p ∷ touch Store Byte p ∷ []))
  unfolding address_of step_over part_of spot_as address_in
  given_at true h = rw h
  given_at false h = rw h

  pub given_trail : trail_of (lent er pc f) t (touch Load Byte (Abs24 (address_in s er)) ∷ touch Store Byte (Abs24 (address_in s er)) ∷ [])
      ≡ trail_of (lent er pc f) t (byte (spot_as s) (λ p. touch Load Byte p ∷ touch Store Byte p ∷ []))
  given_trail = given_at (ltb s 256) refl
