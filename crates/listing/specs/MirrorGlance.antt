-- What a code's first byte alone tells of paths, and parts of a flow. Nothing here is to be believed: `glance` and `flow_at`
-- promise `flow_at`.
use Rattle.std.specs.Prelude.{◌≡◌, ℕ, Option, Some, None, Result, Ok, Err}
use Rattle.codes.specs.States.{goes_of}
use Rattle.codes.specs.declared.Goes.TheVariants.{Onward}
use Rattle.codes.specs.declared.Reach.{Reach}
use Rattle.codes.specs.declared.Reach.TheVariants.{Near, Far}
use Rattle.codes.specs.declared.Target.{Target}
use Rattle.codes.specs.declared.Target.TheVariants.{ByReg, Direct, Vector}
use Rattle.refusal.specs.declared.Refusal.{Refusal}
use Rattle.refusal.specs.declared.Refusal.TheVariants.{NotFollowed}
use Rattle.registers.specs.Parts.{pc_of}
use Rattle.decoder.specs.declared.plan.Plan.{Plan}
use Rattle.decoder.specs.declared.plan.Plan.TheVariants.{Whole, Lacks}
use Rattle.site.specs.declared.Site.{Site}
use Rattle.timing.specs.Made.{most_of}

-- the word is a whole code that goes on, of s states
abbrev pub Tells : Site → ℕ → Option Plan → Type 0
Tells k s (Some (Whole i)) = (goes_of i ≡ Onward) × (most_of k i ≡ s)
Tells k s (Some (Lacks q)) = ⊥
Tells k s None = ⊥

-- the states, if the word tells them whatever its second byte is
abbrev pub Told : Site → Option ℕ → (ℕ → Option Plan) → Type 0
Told k (Some s) plan = (b : ℕ) → Tells k s (plan b)
Told k None plan = Unit {0}

-- where a jump or a call is followed to
abbrev pub followed_to : ℕ → Target → Result ℕ Refusal
followed_to p (ByReg e) = Err (NotFollowed p)
followed_to p (Direct a) = Ok (pc_of a)
followed_to p (Vector a) = Err (NotFollowed p)

abbrev pub reach_states : Reach → ℕ
reach_states (Near d) = 4
reach_states (Far d) = 6
