-- What the parts of the executor with memory come to. Assumes nothing.
use Rattle.std.specs.Prelude.{Result, Ok}
use Prim.Native.Nat.{ℕ, ◌+◌, ◌/◌, ◌%◌}
use mathlib.Core.Path.{◌≡◌, refl, sym, ap}
use mathlib.Core.Bool.{Bool, true, false, cond}
use mathlib.Core.List.{List, [], ◌∷◌}
use lib.Dec.{eqb}
use Rattle.refusal.specs.declared.Refusal.{Refusal}
use Rattle.arith.specs.declared.Width.{Width}
use Rattle.arith.specs.declared.Width.TheVariants.{Long}
use Rattle.site.specs.declared.Site.{Site}
use Rattle.registers.specs.declared.Condition.{Condition}
use Rattle.registers.specs.declared.Registers.{Registers}
use Rattle.registers.specs.Lent.{lent, part_in}
use Rattle.registers.specs.Parts.{part_of}
use Rattle.memory.specs.declared.Board.{Board}
use Rattle.operate.specs.declared.Deed.{Deed}
use Rattle.operate.specs.MirrorLent.{effect_in}
use Rattle.operate.specs.Results.{Effect}
use Rattle.timing.specs.Made.{made_at, sum_of, base_of}
use Rattle.moves.specs.Made.{trail_of, states_at}
use Rattle.moves.proofs.States.{states_once, states_twice, stored_where, pushed_where}
use Rattle.moves.specs.Moves.{stepped, address_of, step_over, load_of, store_of, push_of}
use Rattle.flow.specs.Targets.{next_of}
use Rattle.codes.specs.States.{goes_of}
use Rattle.codes.specs.Cycles.{touch, pushes, touches_of}
use Rattle.codes.specs.declared.Dir.{Dir}
use Rattle.codes.specs.declared.Dir.TheVariants.{Load, Store}
use Rattle.codes.specs.declared.Place.{Place}
use Rattle.codes.specs.declared.Place.TheVariants.{At, Step, Disp, Abs8, Abs16, Abs24}
use Rattle.codes.specs.declared.Reach.TheVariants.{Near}
use Rattle.codes.specs.declared.Target.TheVariants.{Vector}
use Rattle.codes.specs.declared.Way.{Way}
use Rattle.codes.specs.declared.Way.TheVariants.{Up, Down}
use Rattle.codes.specs.declared.Instruction.{Instruction}
use Rattle.codes.specs.declared.Instruction.TheVariants.{Move, Jmp, Bsr, Jsr, Rts}
use Rattle.step.specs.Follow.{follow_of}
use Rattle.step.specs.Step.{after, effect_of, transfer_of, carry_of, obey_of, act_of}
use Rattle.turns.specs.MirrorTurn.{ended_of, told_in, TurnsOn, touched_by}
use Rattle.turns.proofs.Laws.{ended_told, ended_taking}
use Rattle.entry.specs.Entry.{move_by}
use Rattle.transfer.specs.declared.moving.Aim.{Aim}
use Rattle.transfer.specs.MirrorTransfer.{finished, push_cost, low_of, high_of, aim, aim_in, move_base, moved_at}

-- the states of what touches memory, by what its accesses cost
module _ (k : Site) (r : Registers) (x : ℕ) where
  pub rts_takes : x ≡ sum_of k (made_at Load Long (part_of Long r 7)) → 6 + x ≡ states_at k r Rts
  unfolding base_of address_of
  rts_takes h = rw h (sym (states_once k r Rts (touch Load Long (Step 7)) refl))

  pub jmp_takes : (a : ℕ) → x ≡ sum_of k (made_at Load Long a) → 6 + x ≡ states_at k r (Jmp (Vector a))
  unfolding base_of address_of
  jmp_takes a h = rw h (sym (states_once k r (Jmp (Vector a)) (touch Load Long (Abs24 a)) refl))

  pub jsr_takes : (a : ℕ) → x ≡ sum_of k (made_at Load Long a) → states_at k r (Jsr (Vector a)) ≡ 4 + x + push_cost k r
  unfolding base_of address_of
  jsr_takes a h = rw h (states_twice k r (Jsr (Vector a)) (touch Load Long (Abs24 a)) (touch Store Long (Step 7)) refl)

pub push_takes : (k : Site) (r : Registers) (i : Instruction) → touches_of i ≡ pushes → states_at k r i ≡ base_of i + push_cost k r
push_takes k r i h = states_once k r i (touch Store Long (Step 7)) h

-- what was done by a deed e, whose registers lie in er' and whose memory is ram'; x is what its access cost
module _ (er er' ram ram' : List ℕ) (pc : ℕ) (f : Condition) (b : Board) (e : Deed) (x : ℕ) where
  pub push_told : (next to n : ℕ) → x ≡ sum_of b.site (made_at Load Long (part_in Long er' 7)) → stepped (effect_in er' pc e) ram' ≡ push_of next (lent er pc f) b ram
      → after (told_in er' pc (ended_of e.outcome e.condition to (n + x))) ram'
      ≡ finished (push_of next (lent er pc f) b ram) (lent er pc f) to (n + push_cost b.site (lent er pc f))
  unfolding effect_of
  push_told next to n h w =
      ended_told (lent er pc f) ram er' ram' pc e to (n + x) _ (λ o. rw (h, pushed_where er er' ram ram' pc f b e o next w)) next b [] (Bsr (Near 0)) w

  module _ (rom : List ℕ) (w : Width) where
    -- @ER+ and @-ER
    pub step_loads : (r d n : ℕ) → x ≡ sum_of b.site (made_at Load w (part_in Long er r)) → effect_in er' pc e ≡ load_of w (Step r) d (lent er pc f) b rom ram
        → TurnsOn (Ok (Move Load w (Step r) d, n)) er er' pc f b rom ram ram (ended_of e.outcome e.condition (next_of pc n) (move_base w (Step r) + x))
    unfolding effect_of transfer_of follow_of base_of address_of part_of
    step_loads r d n h q =
        ended_taking (Move Load w (Step r) d) n (next_of pc n) er pc f b rom ram _ er' ram e
        (λ o. rw h (sym (states_once b.site (lent er pc f) (Move Load w (Step r) d) (touch Load w (Step r)) refl))) refl (ap (λ (y : Effect). stepped y ram) q)

    pub step_stores : (r d n : ℕ) → x ≡ sum_of b.site (made_at Load w (part_in Long er' r)) → stepped (effect_in er' pc e) ram' ≡ store_of w (Step r) d (lent er pc f) b ram
        → TurnsOn (Ok (Move Store w (Step r) d, n)) er er' pc f b rom ram ram' (ended_of e.outcome e.condition (next_of pc n) (move_base w (Step r) + x))
    unfolding effect_of transfer_of follow_of base_of
    step_stores r d n h q =
        ended_taking (Move Store w (Step r) d) n (next_of pc n) er pc f b rom ram _ er' ram' e
        (λ o. rw (h, stored_where er er' ram ram' pc f b e o w r d q) (sym (states_once b.site (lent er pc f) (Move Store w (Step r) d) (touch Store w (Step r)) refl)))
        refl q

    -- the other places
    module _ (a : Aim) (h : x ≡ sum_of b.site (made_at Load w a.address)) where
      pub aim_loads : effect_in er' pc e ≡ load_of w (Abs24 a.address) a.register (lent er pc f) b rom ram
          → after (told_in er' pc (ended_of e.outcome e.condition a.next (a.states + x))) ram ≡ moved_at Load w a (lent er pc f) b rom ram
      unfolding effect_of transfer_of moved_at
      aim_loads q =
          ended_told (lent er pc f) ram er' ram pc e a.next (a.states + x) _ (λ o. rw h) a.next b rom (Move Load w (Abs24 a.address) a.register)
          (ap (λ (y : Effect). stepped y ram) q)

      pub aim_stores : stepped (effect_in er' pc e) ram' ≡ store_of w (Abs24 a.address) a.register (lent er pc f) b ram
          → after (told_in er' pc (ended_of e.outcome e.condition a.next (a.states + x))) ram' ≡ moved_at Store w a (lent er pc f) b rom ram
      unfolding effect_of transfer_of moved_at
      aim_stores q =
          ended_told (lent er pc f) ram er' ram' pc e a.next (a.states + x) _ (λ o. rw h) a.next b rom (Move Store w (Abs24 a.address) a.register) q

-- a call, where n is its states without the push
pub call_acts : (i : Instruction) (l to n : ℕ) (er : List ℕ) (pc : ℕ) (f : Condition) (b : Board) (rom ram : List ℕ)
    → states_at b.site (lent er pc f) i ≡ n + push_cost b.site (lent er pc f) → follow_of (lent er pc f) b rom ram (goes_of i) (next_of pc l) ≡ Ok to
    → effect_of (next_of pc l) (lent er pc f) b rom ram i ≡ push_of (next_of pc l) (lent er pc f) b ram
    → finished (push_of (next_of pc l) (lent er pc f) b ram) (lent er pc f) to (n + push_cost b.site (lent er pc f)) ≡ act_of (Ok (i, l)) (lent er pc f) b rom ram
unfolding act_of obey_of carry_of
call_acts i l to n er pc f b rom ram t w x = rw (w, x, t)

-- MOV at a place that leaves its register alone is MOV at the place's address
module _ (dir : Dir) (w : Width) (er : List ℕ) (pc : ℕ) (f : Condition) (b : Board) (rom ram : List ℕ) where
  abbrev Moves : Result (Instruction × ℕ) Refusal → Aim → Type 0
  Moves c a = moved_at dir w a (lent er pc f) b rom ram ≡ act_of c (lent er pc f) b rom ram

  moved_takes : (g : Dir) (p : Place) (d : ℕ) → ((way : Way) → step_over way w p (lent er pc f) ≡ lent er pc f)
      → states_at b.site (lent er pc f) (Move g w p d) ≡ move_base w p + sum_of b.site (made_at Load w (address_of p (lent er pc f)))
  unfolding base_of
  moved_takes Load p d h = states_once b.site (lent er pc f) (Move Load w p d) (touch Load w p) refl
  moved_takes Store p d h = rw (h Down) at (states_once b.site (lent er pc f) (Move Store w p d) (touch Store w p) refl)

  at_address : (g : Dir) (p : Place) (d n : ℕ) → ((way : Way) → step_over way w p (lent er pc f) ≡ lent er pc f)
      → moved_at g w (aim (address_of p (lent er pc f)) d (next_of pc n) (move_base w p)) (lent er pc f) b rom ram ≡ act_of (Ok (Move g w p d, n)) (lent er pc f) b rom ram
  unfolding moved_at transfer_of load_of store_of step_over address_of act_of obey_of carry_of follow_of effect_of
  at_address Load p d n h = rw (moved_takes Load p d h, h Up)
  at_address Store p d n h = rw (moved_takes Store p d h, h Down)

  both : (t : Bool) (c c' : Result (Instruction × ℕ) Refusal) (a a' : Aim) → Moves c a → Moves c' a' → Moves (cond t c c') (cond t a a')
  both true c c' a a' h k = h
  both false c c' a a' h k = k

  -- m, n and s as the width has them: how many digits its registers have, the bytes of its shortest code, and that code's states without the access
  module _ (m n s x : ℕ) (low : (y : ℕ) → low_of m y ≡ y % m) (high : (y : ℕ) → high_of m y ≡ y / m % 8) (least : (e : ℕ) → move_base w (At e) ≡ s)
      (disp : (e d : ℕ) → move_base w (Disp e d) ≡ s + 2) (abs8 : (a : ℕ) → move_base w (Abs8 a) ≡ s) (abs16 : (a : ℕ) → move_base w (Abs16 a) ≡ s + 2)
      (abs24 : (a : ℕ) → move_base w (Abs24 a) ≡ s + 4) where
    row : (p : Place) (d d' l a t : ℕ) → ((way : Way) → step_over way w p (lent er pc f) ≡ lent er pc f) → d' ≡ d → a ≡ address_of p (lent er pc f)
        → move_base w p ≡ t → Moves (Ok (Move dir w p d, l)) (aim a d' (next_of pc l) t)
    row p d d' l a t h u v q = rw (u, v, sym q) (at_address dir p d l h)

    pub aimed_moves : (k : ℕ) → eqb k 1 ≡ false → Moves (move_by k dir w m n x) (aim_in k m x pc n s er)
    unfolding move_by aim_in address_of part_of step_over
    aimed_moves k h =
        let y = x / 65536 in
        rw h
        (both (eqb k 0) _ _ _ _ (row (At (x / m % 8)) (x % m) _ n _ s (λ way. refl) (low x) (rw (high x)) (least _))
        (both (eqb k 2) _ _ _ _ (row (Disp (y / m % 8) (x % 65536)) (y % m) _ (n + 2) _ (s + 2) (λ way. refl) (low y) (rw (high y)) (disp _ _))
        (both (eqb k 3) _ _ _ _ (row (Abs8 (x % 256)) (x / 256 % m) _ n _ s (λ way. refl) (low _) refl (abs8 _))
        (both (eqb k 4) _ _ _ _ (row (Abs16 (x % 65536)) (y % m) _ (n + 2) _ (s + 2) (λ way. refl) (low y) refl (abs16 _))
        (row (Abs24 (x % 16777216)) (x / 16777216 % m) _ (n + 4) _ (s + 4) (λ way. refl) (low _) refl (abs24 _))))))

-- and it touches what its place says
module _ (dir : Dir) (w : Width) (er : List ℕ) (pc : ℕ) (f : Condition) (t : ℕ) where
  abbrev Notes-as : Result (Instruction × ℕ) Refusal → ℕ → Type 0
  Notes-as c a = trail_of (lent er pc f) t (touch dir w (Abs24 a) ∷ []) ≡ trail_of (lent er pc f) t (touched_by c)

  noted_at : (g : Dir) (p : Place) (a : ℕ) → ((way : Way) → step_over way w p (lent er pc f) ≡ lent er pc f) → a ≡ address_of p (lent er pc f)
      → trail_of (lent er pc f) t (touch g w (Abs24 a) ∷ []) ≡ trail_of (lent er pc f) t (touch g w p ∷ [])
  unfolding address_of step_over
  noted_at Load p a h e = rw e
  noted_at Store p a h e = rw (e, h Down)

  either : (b : Bool) (c c' : Result (Instruction × ℕ) Refusal) (a a' : Aim) → Notes-as c a.address → Notes-as c' a'.address → Notes-as (cond b c c') (cond b a a').address
  either true c c' a a' h k = h
  either false c c' a a' h k = k

  pub aimed_trail : (m n s x at : ℕ) → ((y : ℕ) → high_of m y ≡ y / m % 8) → (k : ℕ) → eqb k 1 ≡ false
      → Notes-as (move_by k dir w m n x) (aim_in k m x at n s er).address
  unfolding move_by aim_in address_of part_of step_over
  aimed_trail m n s x at high k h =
      let y = x / 65536 in
      rw h
      (either (eqb k 0) _ _ _ _ (noted_at dir (At (x / m % 8)) _ (λ way. refl) (rw (high x)))
      (either (eqb k 2) _ _ _ _ (noted_at dir (Disp (y / m % 8) (x % 65536)) _ (λ way. refl) (rw (high y)))
      (either (eqb k 3) _ _ _ _ (noted_at dir (Abs8 (x % 256)) _ (λ way. refl) refl)
      (either (eqb k 4) _ _ _ _ (noted_at dir (Abs16 (x % 65536)) _ (λ way. refl) refl)
      (noted_at dir (Abs24 (x % 16777216)) _ (λ way. refl) refl)))))
