use Rattle.parsing.proofs.Singles.{forms}
use borrow.Author.Rules.{rules}
use Rattle.parsing.proofs.items.item.Goals as goal

ruleset by = (forms, rules)

pub returns-in-35 : goal.returns-in-35
returns-in-35 c = search by

pub returns-in-36 : goal.returns-in-36
returns-in-36 c = search by

pub returns-in-64 : goal.returns-in-64
returns-in-64 c = search by

pub returns-in-37 : goal.returns-in-37
returns-in-37 c = search by

pub returns-in-63 : goal.returns-in-63
returns-in-63 c = search by

pub returns-in-0-to-31 : goal.returns-in-0-to-31
returns-in-0-to-31 c = search by

pub returns-in_default : goal.returns-in_default
returns-in_default c = search by
