-- Each turn passes over a character that is not shown, or one that the line has too.
use Rattle.lines.proofs.Choices.{comparisons}
use borrow.Author.Rules.{rules}
use Rattle.lines.proofs.choice.begins.Goals as goal

ruleset by = (comparisons, rules)

pub returns-then-c-eq32 : goal.returns-then-c-eq32
returns-then-c-eq32 c = search by

pub returns-then-at-text : goal.returns-then-at-text
returns-then-at-text c = search by

pub returns : goal.returns
returns c = search by

pub loop-c-preserved : goal.loop-c-preserved
loop-c-preserved c = search by

pub loop-c-preserved-then-c-lt32 : goal.loop-c-preserved-then-c-lt32
loop-c-preserved-then-c-lt32 c = search by
