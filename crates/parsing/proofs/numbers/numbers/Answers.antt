-- Each turn takes a digit or a comma from what remains.
use Rattle.base.proofs.Tests.{flag_false, flag_true}
use Rattle.parsing.proofs.Turns.{turns}
use borrow.Author.Rules.{rules}
use Rattle.parsing.proofs.numbers.numbers.Goals as goal

ruleset by = (turns, flag_true, flag_false, rules)

pub loop-at-preserved-then-m-bound : goal.loop-at-preserved-then-m-bound
loop-at-preserved-then-m-bound c = search by

pub returns-then-is_digit : goal.returns-then-is_digit
returns-then-is_digit c = search by

pub loop-at-preserved : goal.loop-at-preserved
loop-at-preserved c = search by

pub returns-then-seen : goal.returns-then-seen
returns-then-seen c = search by

pub returns-in-loop-at : goal.returns-in-loop-at
returns-in-loop-at c = search by

pub returns-then-seen-2 : goal.returns-then-seen-2
returns-then-seen-2 c = search by

pub returns : goal.returns
returns c = search by
