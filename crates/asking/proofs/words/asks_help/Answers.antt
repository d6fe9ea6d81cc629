-- the longer words
use Rattle.std.proofs.Common.{◌≡◌, arith}
use borrow.Author.Rules.{rules}
use Rattle.std.proofs.lemmas.Slice.Eq.{text_from_reads}
use Rattle.text.specs.Lines.{ascii}
use Rattle.asking.proofs.words.asks_help.Goals as goal

pub returns-in-45-2 : goal.returns-in-45-2
returns-in-45-2 c = let e : c.args.s.now ≡ ascii "--help" = text_from_reads _ _ (omega arith) (search rules) in rw e
