-- The names of the instruction, its parts and the answers, passed on to the files here and to the crates above. Nothing here is to be believed.
pub use Rattle.arith.specs.declared.Width.{Width}
pub use Rattle.arith.specs.declared.Width.TheVariants.{Byte, Word, Long}
pub use Rattle.codes.specs.declared.Op.{Op}
pub use Rattle.codes.specs.declared.Op.TheVariants.{Add, Sub, Cmp, Mov, Addx, Subx, Or, Xor, And}
pub use Rattle.codes.specs.declared.Source.{Source}
pub use Rattle.codes.specs.declared.Source.TheVariants.{Reg, Imm}
pub use Rattle.codes.specs.declared.Way.{Way}
pub use Rattle.codes.specs.declared.Way.TheVariants.{Up, Down}
pub use Rattle.codes.specs.declared.By.{By}
pub use Rattle.codes.specs.declared.By.TheVariants.{One, Two, Four}
pub use Rattle.codes.specs.declared.Turn.{Turn}
pub use Rattle.codes.specs.declared.Turn.TheVariants.{Shll, Shlr, Rotxl, Rotxr, Shal, Shar, Rotl, Rotr}
pub use Rattle.codes.specs.declared.Single.{Single}
pub use Rattle.codes.specs.declared.Single.TheVariants.{Not, Neg, Extu, Exts}
pub use Rattle.products.specs.declared.Half.{Half}
pub use Rattle.products.specs.declared.Half.TheVariants.{Eight, Sixteen}
pub use Rattle.codes.specs.declared.Sign.{Sign}
pub use Rattle.codes.specs.declared.Sign.TheVariants.{Unsigned, Signed}
pub use Rattle.codes.specs.declared.Take.{Take}
pub use Rattle.codes.specs.declared.Take.TheVariants.{Btst, Bor, Bior, Bxor, Bixor, Band, Biand, Bld, Bild}
pub use Rattle.codes.specs.declared.Give.{Give}
pub use Rattle.codes.specs.declared.Give.TheVariants.{Bset, Bnot, Bclr, Bst, Bist}
pub use Rattle.codes.specs.declared.Index.{Index}
pub use Rattle.codes.specs.declared.Index.TheVariants.{Numbered, ByPart}
pub use Rattle.codes.specs.declared.Spot.{Spot}
pub use Rattle.codes.specs.declared.Spot.TheVariants.{InPart, AtEr, AtAbs}
pub use Rattle.codes.specs.declared.Change.{Change}
pub use Rattle.codes.specs.declared.Change.TheVariants.{Orc, Xorc, Andc, Ldc}
pub use Rattle.codes.specs.declared.Dir.{Dir}
pub use Rattle.codes.specs.declared.Dir.TheVariants.{Load, Store}
pub use Rattle.codes.specs.declared.Place.{Place}
pub use Rattle.codes.specs.declared.Place.TheVariants.{At, Step, Disp, Abs8, Abs16, Abs24}
pub use Rattle.codes.specs.declared.Reach.{Reach}
pub use Rattle.codes.specs.declared.Reach.TheVariants.{Near, Far}
pub use Rattle.codes.specs.declared.Target.{Target}
pub use Rattle.codes.specs.declared.Target.TheVariants.{ByReg, Direct, Vector}
pub use Rattle.codes.specs.declared.Instruction.{Instruction}
pub use Rattle.codes.specs.declared.Instruction.TheVariants.{Nop, Stc, LdcReg, Ccr, Alu, IncDec, AddsSubs, Decimal, Shift, Unary, Multiply, Divide, Takes, Gives, Move, Bcc, Jmp, Bsr, Jsr, Rts}
pub use Rattle.codes.specs.declared.Goes.{Goes}
pub use Rattle.codes.specs.declared.Goes.TheVariants.{Onward, Branches, Jumps, CallsNear, Calls, Returns}
pub use Rattle.refusal.specs.declared.Refusal.{Refusal}
pub use Rattle.refusal.specs.declared.Refusal.TheVariants.{UnknownCode, CutShort, NotInstruction, LentTooShort}
-- and of the decoder's own parts, to the files here
pub use Rattle.decoder.specs.declared.plan.Rest.{Rest}
pub use Rattle.decoder.specs.declared.plan.Rest.TheVariants.{Imm16, Imm32, Disp16, Aa16, Aa24, Bcc16, Bsr16, Jmp24, Jsr24}
pub use Rattle.decoder.specs.declared.plan.Plan.{Plan}
pub use Rattle.decoder.specs.declared.plan.Plan.TheVariants.{Whole, Lacks}
pub use Rattle.decoder.specs.declared.plan.Mode.{Mode}
pub use Rattle.decoder.specs.declared.plan.Mode.TheVariants.{Plain, Stepping, Displaced, Absolute}
pub use Rattle.decoder.specs.declared.whole.Tail.{Tail}
pub use Rattle.decoder.specs.declared.whole.Tail.TheVariants.{Bits16, Bits24, Bits32}
pub use Rattle.decoder.specs.declared.whole.Fault.{Fault}
pub use Rattle.decoder.specs.declared.whole.Fault.TheVariants.{Cut, Unlisted}
