-- the longer words
use Rattle.std.proofs.Common.{◌≡◌, arith}
use borrow.Author.Rules.{rules}
use Rattle.std.proofs.lemmas.Slice.Eq.{text_from_reads}
use Rattle.text.specs.Lines.{ascii}
use Rattle.asking.specs.Words.{use_of}
use Rattle.asking.proofs.words.use_of.Goals as goal

pub returns-in-figure : goal.returns-in-figure
unfolding use_of
returns-in-figure c = let e : c.args.s.now ≡ ascii "figure" = text_from_reads _ _ (omega arith) (search rules) in rw e

pub returns-in-replay : goal.returns-in-replay
unfolding use_of
returns-in-replay c = let e : c.args.s.now ≡ ascii "replay" = text_from_reads _ _ (omega arith) (search rules) in rw e
