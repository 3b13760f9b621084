-- Through the open gate the vaults are those that the rule names; through the shut one nothing is listed.
use borrow.Author.Rules.{rules}
use Rattle.equivocation.proofs.Partners.{listed_by_lem}
use Rattle.ledger.proofs.Gates.{ways, whole_few, whole_inside}
use Rattle.ledger.specs.Steps.{equivocators_of}
use Rattle.inquiries.proofs.equivocating.Goals as goal

ruleset by = (ways, listed_by_lem, rules)

pub returns-in-Ok : goal.returns-in-Ok
unfolding equivocators_of
returns-in-Ok c = search by depth 8

pub returns-in-Err : goal.returns-in-Err
unfolding equivocators_of
returns-in-Err c = search by depth 8

pub equivocating-found-requires : goal.equivocating-found-requires
equivocating-found-requires c = search by depth 8

pub enter-requires : goal.enter-requires
enter-requires c = (
  whole_few _ _ _ c.whole_gate-gate.ensures c.in-Ok.is,
  whole_inside _ _ _ c.whole_gate-gate.ensures c.in-Ok.is,
  c.blank-tables.ensures,
)
