use borrow.Author.Rules.{rules}
use Rattle.ledger.proofs.Gates.{entering}
use Rattle.release_list.proofs.Whole.{list_passed, list_shut}
use Rattle.release_list.proofs.list.Goals as goal

ruleset by = (list_passed, list_shut, entering, rules)

pub write_list-end-requires : goal.write_list-end-requires
write_list-end-requires c = search by

pub returns-in-Ok : goal.returns-in-Ok
returns-in-Ok c = search by

pub returns-in-Err : goal.returns-in-Err
returns-in-Err c = search by
