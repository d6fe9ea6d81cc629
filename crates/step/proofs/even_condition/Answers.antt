use mathlib.Core.Bool.{xor}
use borrow.Author.Tests.{eq-eqb, ne_eqb}
use borrow.Author.Rules.{rules}
use Rattle.step.specs.Follow.{even_condition}
use Rattle.step.proofs.even_condition.Goals as goal

pub returns-in-0 : goal.returns-in-0
unfolding even_condition xor
returns-in-0 c = search (rules, eq-eqb, ne_eqb)

pub returns-in-1 : goal.returns-in-1
unfolding even_condition xor
returns-in-1 c = rw c.in-1.is

pub returns-in-2 : goal.returns-in-2
unfolding even_condition xor
returns-in-2 c = rw c.in-2.is

pub returns-in-3 : goal.returns-in-3
unfolding even_condition xor
returns-in-3 c = rw c.in-3.is

pub returns-in-4 : goal.returns-in-4
unfolding even_condition xor
returns-in-4 c = rw c.in-4.is

pub returns-in-5 : goal.returns-in-5
unfolding even_condition xor
returns-in-5 c = rw c.in-5.is

pub returns-in-6 : goal.returns-in-6
unfolding even_condition xor
returns-in-6 c = rw c.in-6.is

pub returns-in_default : goal.returns-in_default
unfolding even_condition xor
returns-in_default c = search (rules, eq-eqb, ne_eqb)
