use Rattle.parsing.proofs.Singles.{singles}
use borrow.Author.Rules.{rules}
use Rattle.parsing.proofs.items.plain.Goals as goal

ruleset by = (singles, rules)

pub returns-then-is_plain : goal.returns-then-is_plain
returns-then-is_plain c = search by

pub returns : goal.returns
returns c = search by
