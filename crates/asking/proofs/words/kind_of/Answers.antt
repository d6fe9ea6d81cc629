-- the longer words
use Rattle.std.proofs.Common.{◌≡◌, arith}
use borrow.Author.Rules.{rules}
use Rattle.std.proofs.lemmas.Slice.Eq.{text_from_reads}
use Rattle.text.specs.Lines.{ascii}
use Rattle.asking.specs.Words.{kind_of}
use Rattle.asking.proofs.words.kind_of.Goals as goal

pub returns-in-45 : goal.returns-in-45
unfolding kind_of
returns-in-45 c = let e : c.args.s.now ≡ ascii "--plain" = text_from_reads _ _ (omega arith) (search rules) in rw e

pub returns-in-45-3 : goal.returns-in-45-3
unfolding kind_of
returns-in-45-3 c = let e : c.args.s.now ≡ ascii "--port" = text_from_reads _ _ (omega arith) (search rules) in rw e

pub returns-in-45-4 : goal.returns-in-45-4
unfolding kind_of
returns-in-45-4 c = let e : c.args.s.now ≡ ascii "--budget" = text_from_reads _ _ (omega arith) (search rules) in rw e

pub returns-in-45-5 : goal.returns-in-45-5
unfolding kind_of
returns-in-45-5 c = let e : c.args.s.now ≡ ascii "--stop" = text_from_reads _ _ (omega arith) (search rules) in rw e

pub returns-in-45-7 : goal.returns-in-45-7
unfolding kind_of
returns-in-45-7 c = let e : c.args.s.now ≡ ascii "--routine" = text_from_reads _ _ (omega arith) (search rules) in rw e

pub returns-in-45-8 : goal.returns-in-45-8
unfolding kind_of
returns-in-45-8 c = let e : c.args.s.now ≡ ascii "--deep" = text_from_reads _ _ (omega arith) (search rules) in rw e

pub returns-in-45-9 : goal.returns-in-45-9
unfolding kind_of
returns-in-45-9 c = let e : c.args.s.now ≡ ascii "--trace" = text_from_reads _ _ (omega arith) (search rules) in rw e
