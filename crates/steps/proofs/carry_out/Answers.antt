use Rattle.steps.proofs.Turns.{turns}
use borrow.Author.Rules.{rules}
use Rattle.steps.proofs.carry_out.Goals as goal

ruleset by = (turns, rules)

pub decide-decision-requires : goal.decide-decision-requires
decide-decision-requires c = search by

pub write_line-end-requires : goal.write_line-end-requires
write_line-end-requires c = search by

pub store-requires : goal.store-requires
store-requires c = search by

pub shape_of-numbers : goal.shape_of-numbers
shape_of-numbers c = search by

pub shape_of-sets : goal.shape_of-sets
shape_of-sets c = search by

pub shape_of-records : goal.shape_of-records
shape_of-records c = search by

pub shape_of-journal : goal.shape_of-journal
shape_of-journal c = search by

pub shape_of-out : goal.shape_of-out
shape_of-out c = search by

pub returns : goal.returns
returns c = search by
