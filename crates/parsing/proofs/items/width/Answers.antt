use Rattle.parsing.proofs.Singles.{wides}
use borrow.Author.Rules.{rules}
use Rattle.parsing.proofs.items.width.Goals as goal

ruleset by = (wides, rules)

pub returns-in-64 : goal.returns-in-64
returns-in-64 c = search by

pub returns-in-36 : goal.returns-in-36
returns-in-36 c = search by

pub returns-in_default : goal.returns-in_default
returns-in_default c = search by

pub returns-in-0-to-31 : goal.returns-in-0-to-31
returns-in-0-to-31 c = search by

pub returns-in-0-to-31-2 : goal.returns-in-0-to-31-2
returns-in-0-to-31-2 c = search by
