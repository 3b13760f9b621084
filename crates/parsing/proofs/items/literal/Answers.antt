use Rattle.parsing.proofs.Singles.{singles}
use borrow.Author.Rules.{rules}
use Rattle.parsing.proofs.items.literal.Goals as goal

ruleset by = (singles, rules)

pub returns-then-text-at : goal.returns-then-text-at
returns-then-text-at c = search by

pub returns : goal.returns
returns c = search by
