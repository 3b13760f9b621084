use Prim.Native.Nat.{◌-◌}
use borrow.Author.Rules.{rules}
use Rattle.base.proofs.Search.{searches}
use Rattle.ledger.specs.State.{has_arrived}
use Rattle.arrivals.proofs.has_arrived.Goals as goal

ruleset by = (searches, rules)

pub returns-then-is_arrival : goal.returns-then-is_arrival
unfolding has_arrived
returns-then-is_arrival c = search by depth 8

pub returns : goal.returns
unfolding has_arrived
returns c = search by depth 8

pub loop-i-init : goal.loop-i-init
loop-i-init c = search by depth 8

pub is_arrival-requires : goal.is_arrival-requires
is_arrival-requires c = search by depth 8

pub overflow_step-i : goal.overflow_step-i
overflow_step-i c = search by depth 8

pub loop-i-smaller : goal.loop-i-smaller
loop-i-smaller c = search by depth 8

pub loop-i-preserved : goal.loop-i-preserved
loop-i-preserved c = search by depth 8
