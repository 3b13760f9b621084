use Rattle.ledger.proofs.Gates.{ways}
use Rattle.ledger.specs.State.{votes_in}
use Rattle.ledger.specs.Steps.{commit_decision, commit_of}
use borrow.Author.Rules.{rules}
use Rattle.voting.proofs.commit.Goals as goal

ruleset by = (ways, rules)

pub returns-in-Ok : goal.returns-in-Ok
unfolding commit_of commit_decision votes_in
returns-in-Ok c = search by depth 8

pub returns-in-Err : goal.returns-in-Err
unfolding commit_of commit_decision
returns-in-Err c = search by depth 8

pub bounds-ledger-v : goal.bounds-ledger-v
bounds-ledger-v c = search by

pub bounds-ledger-j : goal.bounds-ledger-j
bounds-ledger-j c = search by

pub carry-requires : goal.carry-requires
carry-requires c = search by
