use Rattle.release_lines.proofs.Lines.{entry_listed, entry_skipped}
use borrow.Author.Rules.{rules}
use Rattle.release_lines.proofs.list_entry.Goals as goal

ruleset by = (entry_listed, entry_skipped, rules)

pub used-requires : goal.used-requires
used-requires c = search by

pub offset_bounds-job-e : goal.offset_bounds-job-e
offset_bounds-job-e c = search by

pub bounds-job-e : goal.bounds-job-e
bounds-job-e c = search by

pub write_tape-at-requires : goal.write_tape-at-requires
write_tape-at-requires c = search by

pub overflow_add-result : goal.overflow_add-result
overflow_add-result c = search by

pub shape_of-out-then-used : goal.shape_of-out-then-used
shape_of-out-then-used c = search by

pub returns-then-used : goal.returns-then-used
returns-then-used c = search by

pub returns : goal.returns
returns c = search by
