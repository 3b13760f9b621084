-- A new record is put and entered, and no other change touches the journal (proofs/Records.antt).
use Rattle.storing.proofs.Records.{records_laws}
use borrow.Author.Rules.{rules}
use Rattle.storing.proofs.store.Goals as goal

ruleset by = (records_laws, rules)

pub is_book-requires : goal.is_book-requires
is_book-requires c = search by

pub record_at-bytes-requires : goal.record_at-bytes-requires
record_at-bytes-requires c = search by

pub put_at-requires : goal.put_at-requires
put_at-requires c = search by

pub read-requires : goal.read-requires
read-requires c = search by

pub enter-requires : goal.enter-requires
enter-requires c = search by

pub shape_of-numbers-then-is_book : goal.shape_of-numbers-then-is_book
shape_of-numbers-then-is_book c = search by

pub shape_of-sets-then-is_book : goal.shape_of-sets-then-is_book
shape_of-sets-then-is_book c = search by

pub shape_of-records-then-is_book : goal.shape_of-records-then-is_book
shape_of-records-then-is_book c = search by

pub shape_of-journal-then-is_book : goal.shape_of-journal-then-is_book
shape_of-journal-then-is_book c = search by

pub returns-then-is_book : goal.returns-then-is_book
returns-then-is_book c = search by

pub returns : goal.returns
returns c = search by
