use Rattle.parsing.proofs.Singles.{singles}
use borrow.Author.Rules.{rules}
use Rattle.parsing.proofs.items.set.Goals as goal

ruleset by = (singles, rules)

pub returns-then-says_none : goal.returns-then-says_none
returns-then-says_none c = search by

pub returns : goal.returns
returns c = search by
