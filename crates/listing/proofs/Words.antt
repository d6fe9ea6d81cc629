-- What a code's word tells of paths, where it is the whole code.
-- Assumes nothing.
use Rattle.std.specs.Prelude.{Option, Some, None, Result, Ok}
use mathlib.Core.Path.{◌≡◌, refl, sym, ap, ap₂, subst, ◌∙◌}
use mathlib.Core.List.{List}
use mathlib.Core.Bool.{Bool, true, false}
use Prim.Native.Nat.{ℕ, ◌+◌, ◌-◌, ◌/◌, ◌%◌, ◌<◌, ◌≤◌}
use native.Mathlib.Omega.{arith}
use lib.Dec.{ltb}
use lib.ListN.{length, drop, get_or, length-drop}
use lib.Seq.{get_or-drop}
use borrow.Author.Tests.{lt-leb}
use Rattle.arith.specs.declared.Width.{Width}
use Rattle.codes.specs.States.{goes_of}
use Rattle.codes.specs.declared.Dir.{Dir}
use Rattle.codes.specs.declared.Dir.TheVariants.{Load, Store}
use Rattle.codes.specs.declared.Instruction.{Instruction}
use Rattle.codes.specs.declared.Instruction.TheVariants.{Move, Bcc}
use Rattle.codes.specs.declared.Place.{Place}
use Rattle.codes.specs.declared.Reach.TheVariants.{Near}
use Rattle.decoder.specs.declared.plan.Plan.{Plan}
use Rattle.decoder.specs.declared.plan.Plan.TheVariants.{Whole, Lacks}
use Rattle.decoder.specs.declared.whole.Fault.{Fault}
use Rattle.decoder.specs.MirrorWords.{pick, plan_of}
use Rattle.decoder.specs.MirrorDecode.{placed_of}
use Rattle.decoder.proofs.Laws.{whole_word}
use Rattle.site.specs.declared.Site.{Site}
use Rattle.timing.specs.Made.{base_of, most_at, most_of}
use Rattle.flow.specs.Targets.{next_of, target_of}
use Rattle.paths.specs.declared.Flow.TheVariants.{Next}
use Rattle.listing.specs.Listing.{branch_flow, goes_flow, found_flow, decoded_at, flow_at}
use Rattle.timing.specs.MirrorParts.{move_base}
use Rattle.listing.specs.MirrorGlance.{Tells}
use Rattle.timing.proofs.Counts.{move}

-- a load and a store tell the same
either_way : (k : Site) (s b : ℕ) (plan : Dir → ℕ → Option Plan) → Tells k s (plan Load (b / 16)) → Tells k s (plan Store (b / 16 - 8))
    → Tells k s (pick (ltb b 128) (plan Load (b / 16)) (plan Store (b / 16 - 8)))
either_way k s b plan u v = go (ltb b 128)
  where
    go : (t : Bool) → Tells k s (pick t (plan Load (b / 16)) (plan Store (b / 16 - 8)))
    go true = u
    go false = v

-- MOV through a register, where c is its code's states and x its access's
pub accesses : (k : Site) (w : Width) (place : ℕ → Place) (b c x : ℕ) → ((e : ℕ) → move_base w (place e) ≡ c) → ((e : ℕ) → x ≡ most_at k w (place e))
    → Tells k (c + x) (pick (ltb b 128) (Some (Whole (Move Load w (place (b / 16)) (b % 16)))) (Some (Whole (Move Store w (place (b / 16 - 8)) (b % 16)))))
accesses k w place b c x base access =
    either_way k (c + x) b (λ dir e. Some (Whole (Move dir w (place e) (b % 16)))) (refl, told Load (b / 16)) (refl, told Store (b / 16 - 8))
  where
    told : (dir : Dir) (e : ℕ) → most_of k (Move dir w (place e) (b % 16)) ≡ c + x
    told dir e = omega (arith, move k dir w (place e) (b % 16), base e, access e)

plus_zero : (n : ℕ) → n + 0 ≡ n
plus_zero n = omega arith

-- the place p has a word, which is the whole code i
module _ (k : Site) (rom : List ℕ) (p : ℕ) (Has-word : p + 2 ≤ length rom) where
  word_flow : (i : Instruction) → plan_of (get_or rom p 0) (get_or rom (p + 1) 0) ≡ Some (Whole i)
      → goes_flow p (next_of p 2) (most_of k i) (goes_of i) ≡ flow_at k rom p
  unfolding flow_at found_flow decoded_at
  word_flow i e =
      let in_rom : p < length rom = omega arith in
      let enough : 2 ≤ length rom - p = omega arith in
      let first = get_or-drop p rom 0 0 ∙ ap (λ (n : ℕ). get_or rom n 0) (plus_zero p) in
      let second = get_or-drop p rom 1 0 in
      let found = whole_word (drop p rom) i (subst (λ (n : ℕ). 2 ≤ n) (sym (length-drop p rom)) enough) (ap₂ plan_of first second ∙ e) in
      sym (rw (lt-leb (length rom) p in_rom) (ap (λ (f : Result (Instruction × ℕ) Fault). found_flow k p (placed_of p (drop p rom) f)) found))

  pub branch_word : get_or rom p 0 / 16 ≡ 4
      → Ok (branch_flow (get_or rom p 0 % 16) (next_of p 2) (target_of (next_of p 2) (Near (get_or rom (p + 1) 0))) 4) ≡ flow_at k rom p
  unfolding goes_flow most_of base_of
  branch_word e = word_flow (Bcc (get_or rom p 0 % 16) (Near (get_or rom (p + 1) 0))) (rw e)

  pub told_word : (s : ℕ) → Tells k s (plan_of (get_or rom p 0) (get_or rom (p + 1) 0)) → Ok (Next (next_of p 2) s) ≡ flow_at k rom p
  unfolding goes_flow
  told_word s t = go (plan_of (get_or rom p 0) (get_or rom (p + 1) 0)) refl t
    where
      go : (q : Option Plan) → plan_of (get_or rom p 0) (get_or rom (p + 1) 0) ≡ q → Tells k s q → Ok (Next (next_of p 2) s) ≡ flow_at k rom p
      go (Some (Whole i)) e u = sym (ap₂ (goes_flow p (next_of p 2)) u.1 u.0) ∙ word_flow i e
      go (Some (Lacks q)) e u = absurd u
      go None e u = absurd u
