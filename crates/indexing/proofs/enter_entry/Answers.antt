-- An entry that is not used changes nothing.
use borrow.Author.Rules.{rules}
use Rattle.index.proofs.Inside.{record_holds}
use Rattle.index.proofs.Tables.{unused_entry, used_entry}
use Rattle.indexing.proofs.enter_entry.Goals as goal

ruleset by = (used_entry, unused_entry, record_holds, rules)

pub enter_used-requires : goal.enter_used-requires
enter_used-requires c = search by

pub returns : goal.returns
returns c = search by
