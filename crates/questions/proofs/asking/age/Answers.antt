use Rattle.questions.proofs.Laws.{age_found, unbooked}
use borrow.Author.Rules.{rules}
use Rattle.questions.proofs.asking.age.Goals as goal

ruleset by = (age_found, unbooked, rules)

pub is_booked-requires : goal.is_booked-requires
is_booked-requires c = search by

pub generations-decision-requires : goal.generations-decision-requires
generations-decision-requires c = search by

pub alone-requires : goal.alone-requires
alone-requires c = search by

pub shape_of-memo-then-is_booked : goal.shape_of-memo-then-is_booked
shape_of-memo-then-is_booked c = search by

pub returns-then-is_booked : goal.returns-then-is_booked
returns-then-is_booked c = search by

pub alone-requires-2 : goal.alone-requires-2
alone-requires-2 c = search by

pub returns : goal.returns
returns c = search by
