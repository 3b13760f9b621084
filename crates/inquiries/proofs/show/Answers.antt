use Rattle.ledger.proofs.Gates.{ways}
use Rattle.ledger.specs.Steps.{show_decision}
use borrow.Author.Rules.{rules}
use Rattle.inquiries.proofs.show.Goals as goal

ruleset by = (ways, rules)

pub returns-in-Ok : goal.returns-in-Ok
unfolding show_decision
returns-in-Ok c = search by depth 8

pub returns-in-Err : goal.returns-in-Err
unfolding show_decision
returns-in-Err c = search by depth 8

pub bounds-ledger-j : goal.bounds-ledger-j
bounds-ledger-j c = search by
