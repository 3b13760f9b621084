use Rattle.ledger.proofs.Gates.{ways}
use Rattle.ledger.specs.State.{votes_in}
use Rattle.ledger.specs.Steps.{faulty_vote_decision, faulty_vote_of}
use borrow.Author.Rules.{rules}
use Rattle.voting.proofs.faulty_vote.Goals as goal

ruleset by = (ways, rules)

pub returns-in-Ok : goal.returns-in-Ok
unfolding faulty_vote_of faulty_vote_decision votes_in
returns-in-Ok c = search by depth 8

pub returns-in-Err : goal.returns-in-Err
unfolding faulty_vote_of faulty_vote_decision
returns-in-Err c = search by depth 8

pub bounds-ledger-j : goal.bounds-ledger-j
bounds-ledger-j c = search by

pub carry-requires : goal.carry-requires
carry-requires c = search by
