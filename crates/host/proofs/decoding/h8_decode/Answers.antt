use mathlib.Core.List.{[]}
use Rattle.refusal.specs.declared.Refusal.TheVariants.{LentTooShort}
use Rattle.host.specs.Codes.{untold}
use Rattle.host.proofs.Told.{refused_told}
use Rattle.host.proofs.Coded.{decode_short, decode_call}
use Rattle.host.proofs.decoding.h8_decode.Goals as goal

pub returns-then-answer-lt3 : goal.returns-then-answer-lt3
returns-then-answer-lt3 c = untold c.if-answer-lt3.true

pub returns-then-fields-lt9 : goal.returns-then-fields-lt9
returns-then-fields-lt9 c = decode_short c.if-answer-lt3.false c.if-fields-lt9.true (refused_told [] c.args.answer.now c.told.ensures.number c.told.ensures.answer (LentTooShort 9) c.from.ensures)

pub returns : goal.returns
returns c = decode_call c.if-answer-lt3.false c.if-fields-lt9.false c.decode-d.ensures.exact c.put_decoded.ensures
