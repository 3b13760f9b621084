-- Through the open gate what was decided is carried; through the shut one the step is turned back.
use Rattle.ledger.proofs.Gates.{ways}
use Rattle.ledger.specs.State.{votes_in}
use Rattle.ledger.specs.Steps.{preflight_decision, preflight_of}
use borrow.Author.Rules.{rules}
use Rattle.voting.proofs.preflight.Goals as goal

ruleset by = (ways, rules)

pub returns-in-Ok : goal.returns-in-Ok
unfolding preflight_of preflight_decision votes_in
returns-in-Ok c = search by depth 8

pub returns-in-Err : goal.returns-in-Err
unfolding preflight_of preflight_decision
returns-in-Err c = search by depth 8

pub bounds-ledger-v : goal.bounds-ledger-v
bounds-ledger-v c = search by

pub bounds-ledger-j : goal.bounds-ledger-j
bounds-ledger-j c = search by

pub enter-requires : goal.enter-requires
enter-requires c = (search by, search by, c.blank-tables.ensures)

pub preflight-decision-requires : goal.preflight-decision-requires
preflight-decision-requires c = search by

pub carry-requires : goal.carry-requires
carry-requires c = search by
