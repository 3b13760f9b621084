-- The lines of the tapes, and the line with their number.
use Rattle.release_list.proofs.Whole.{list_counted, list_told}
use borrow.Author.Rules.{rules}
use Rattle.release_list.proofs.write_list.Goals as goal

ruleset by = (list_counted, list_told, rules)

pub list_jobs-end-requires : goal.list_jobs-end-requires
list_jobs-end-requires c = search by

pub write_some-at-requires : goal.write_some-at-requires
write_some-at-requires c = search by

pub write_byte-at-requires : goal.write_byte-at-requires
write_byte-at-requires c = search by

pub shape_of-out : goal.shape_of-out
shape_of-out c = search by

pub returns : goal.returns
returns c = search by
