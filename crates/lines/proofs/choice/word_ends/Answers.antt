use Rattle.base.proofs.Tests.{tests}
use Rattle.lines.proofs.Choices.{word_ends_rules}
use borrow.Author.Rules.{rules}
use Rattle.lines.proofs.choice.word_ends.Goals as goal

ruleset by = (word_ends_rules, tests, rules)

pub returns-then-at-text : goal.returns-then-at-text
returns-then-at-text c = search by

pub returns-else-at-text : goal.returns-else-at-text
returns-else-at-text c = search by
