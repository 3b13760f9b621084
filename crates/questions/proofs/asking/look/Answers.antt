use Rattle.questions.proofs.Laws.{looks}
use borrow.Author.Rules.{rules}
use Rattle.questions.proofs.asking.look.Goals as goal

ruleset by = (looks, rules)

pub is_listing-requires : goal.is_listing-requires
is_listing-requires c = search by

pub require-requires : goal.require-requires
require-requires c = search by

pub returns-then-is_listing : goal.returns-then-is_listing
returns-then-is_listing c = search by

pub is_naming-requires : goal.is_naming-requires
is_naming-requires c = search by

pub name-requires : goal.name-requires
name-requires c = search by

pub returns-then-is_naming : goal.returns-then-is_naming
returns-then-is_naming c = search by

pub age-requires : goal.age-requires
age-requires c = search by

pub shape_of-memo : goal.shape_of-memo
shape_of-memo c = search by

pub returns : goal.returns
returns c = search by
