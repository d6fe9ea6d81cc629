-- Document 01, "The routine's figure": where paths go from a place. Of all that is said of paths, this alone knows the instruction set.
use Rattle.std.specs.Prelude.{cond, List, ℕ, length, drop, leb, eqb, Result, Ok, Err}
use Rattle.refusal.specs.declared.Refusal.{Refusal}
use Rattle.codes.specs.declared.Instruction.{Instruction}
use Rattle.refusal.specs.declared.Refusal.TheVariants.{FetchOutside, NotFollowed}
use Rattle.codes.specs.States.{goes_of}
use Rattle.codes.specs.declared.Goes.{Goes}
use Rattle.codes.specs.declared.Goes.TheVariants.{Onward, Branches, Jumps, CallsNear, Calls, Returns}
use Rattle.codes.specs.declared.Target.{Target}
use Rattle.codes.specs.declared.Target.TheVariants.{ByReg, Direct, Vector}
use Rattle.decoder.specs.MirrorDecode.{decode_of}
use Rattle.registers.specs.Parts.{pc_of}
use Rattle.site.specs.declared.Site.{Site}
use Rattle.timing.specs.Made.{most_of}
use Rattle.flow.specs.Targets.{next_of, target_of}
use Rattle.paths.specs.declared.Flow.{Flow}
use Rattle.paths.specs.declared.Flow.TheVariants.{Next, Jump, Either, Call, Ends}

-- by its condition's digit: BRA (0) to its target only, BRN (1) to the next only, other conditions to both (002:1373-1388)
unfoldable pub branch_flow : ℕ → ℕ → ℕ → ℕ → Flow
branch_flow c next target s = cond (eqb c 0) (Jump target s) (cond (eqb c 1) (Next next s) (Either next target s))

-- JMP aa:24 to its target only; JMP 59 and JMP 5B are not followed (002:2253-2255)
unfoldable pub jump_flow : ℕ → Target → ℕ → Result Flow Refusal
jump_flow p (ByReg e) s = Err (NotFollowed p)
jump_flow p (Direct a) s = Ok (Jump (pc_of a) s)
jump_flow p (Vector a) s = Err (NotFollowed p)

-- document 02, W9: JSR aa:24 calls its target and goes on at the next instruction; JSR 5D and JSR 5F are not followed (002:2270-2272)
unfoldable pub call_flow : ℕ → ℕ → Target → ℕ → Result Flow Refusal
call_flow p next (ByReg e) s = Err (NotFollowed p)
call_flow p next (Direct a) s = Ok (Call next (pc_of a) s)
call_flow p next (Vector a) s = Err (NotFollowed p)

-- of s states, at p
unfoldable pub goes_flow : ℕ → ℕ → ℕ → Goes → Result Flow Refusal
goes_flow p next s Onward = Ok (Next next s)
goes_flow p next s (Branches c reach) = Ok (branch_flow c next (target_of next reach) s)
goes_flow p next s (Jumps target) = jump_flow p target s
goes_flow p next s (CallsNear reach) = Ok (Call next (target_of next reach) s)
goes_flow p next s (Calls target) = call_flow p next target s
goes_flow p next s Returns = Ok (Ends s)

-- with the site k an instruction counts the most that it takes on any board that has it
unfoldable pub found_flow : Site → ℕ → Result (Instruction × ℕ) Refusal → Result Flow Refusal
found_flow k p (Ok (i, n)) = goes_flow p (next_of p n) (most_of k i) (goes_of i)
found_flow k p (Err r) = Err r

-- "a place decodes the bytes from its address to the end of that memory". `decode_of` is the decoder's answer, the only one that `Decodes` of the
-- code list allows: `decoded_exact` of `proofs/Listed.antt`, `decodes_one` of the decoder's laws
unfoldable pub decoded_at : List ℕ → ℕ → Result (Instruction × ℕ) Refusal
decoded_at rom p = decode_of p (drop p rom)

-- what stands at the place p
unfoldable pub flow_at : Site → List ℕ → ℕ → Result Flow Refusal
flow_at k rom p = cond (leb (length rom) p) (Err (FetchOutside p)) (found_flow k p (decoded_at rom p))
