use Rattle.host.specs.Codes.{answer_short}
use Rattle.host.proofs.Coded.{encode_call}
use Rattle.host.proofs.decoding.h8_encode.Goals as goal

pub returns-then-answer-lt4 : goal.returns-then-answer-lt4
returns-then-answer-lt4 c = answer_short c.if-answer-lt4.true

pub returns : goal.returns
returns c = encode_call c.if-answer-lt4.false c.name_in.ensures c.encode_named-e.ensures c.tell_encoded.ensures
