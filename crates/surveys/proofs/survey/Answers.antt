use Rattle.surveys.proofs.Surveys.{surveyed_so}
use borrow.Author.Rules.{rules}
use Rattle.surveys.proofs.survey.Goals as goal

ruleset by = (surveyed_so, rules)

pub named-named-requires : goal.named-named-requires
named-named-requires c = search by

pub look-listing-requires : goal.look-listing-requires
look-listing-requires c = search by

pub write_text-end-requires : goal.write_text-end-requires
write_text-end-requires c = search by

pub shape_of-memo : goal.shape_of-memo
shape_of-memo c = search by

pub shape_of-out : goal.shape_of-out
shape_of-out c = search by

pub returns : goal.returns
returns c = search by
