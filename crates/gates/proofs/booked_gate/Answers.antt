use Rattle.base.proofs.Tests.{chain}
use Rattle.ledger.specs.Steps.{booked_gate}
use borrow.Author.Rules.{rules}
use Rattle.gates.proofs.booked_gate.Goals as goal

ruleset by = (chain, rules)

pub returns-then-is_booked : goal.returns-then-is_booked
unfolding booked_gate
returns-then-is_booked c = search by depth 8

pub returns-then-is_sane : goal.returns-then-is_sane
unfolding booked_gate
returns-then-is_sane c = search by depth 8

pub returns : goal.returns
unfolding booked_gate
returns c = search by depth 8
