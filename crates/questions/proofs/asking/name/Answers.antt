use Rattle.questions.proofs.Laws.{names}
use borrow.Author.Rules.{rules}
use Rattle.questions.proofs.asking.name.Goals as goal

ruleset by = (names, rules)

pub is_whole-requires : goal.is_whole-requires
is_whole-requires c = search by

pub list-requires : goal.list-requires
list-requires c = search by

pub returns-then-is_whole : goal.returns-then-is_whole
returns-then-is_whole c = search by

pub unlist-requires : goal.unlist-requires
unlist-requires c = search by

pub returns : goal.returns
returns c = search by
